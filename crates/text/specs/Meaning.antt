-- What a reader's answer says, in terms of the decoders: a value and the bytes after it, or the bytes alone. Definitions only.
use Rattle.std.specs.Prelude.{ℕ, List, Option, Some, None}
use Rattle.std.specs.Borrow.{Bor}
use Rattle.text.specs.Decode.{Got, got, bad}

abbrev pub got_of : {A : Type 0} → Option (A × Bor (List ℕ)) → Got A
got_of (Some x) = got x.0 x.1.now
got_of None = bad

abbrev pub left_of : Option (Bor (List ℕ)) → Got (Unit {0})
left_of (Some s) = got tt s.now
left_of None = bad

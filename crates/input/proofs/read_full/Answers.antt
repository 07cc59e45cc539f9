-- What came so far, and then what this read gave, are in front of the buffer.
use Rattle.std.proofs.Common.{◌≡◌, ℕ, ◌+◌, ◌-◌, ◌≤◌, List, ◌++◌, rules, length, take, ap, ◌∙◌, sym, subst}
use Rattle.std.proofs.KnownBytes.{Consumes-trans}
use Rattle.std.specs.Io.KnownBytes.{Consumes}
use borrow.Rule.Slice.PartMut.{put_mid, post_of}
use lib.Seq.{length-take-le, take-append-add, take-append-le}
use Rattle.input.proofs.read_full.Goals as goal

filled : (a k n : ℕ) (xs ys : List ℕ) → a ≤ length xs → n ≤ length ys → take (a + n) (put_mid a k xs ys) ≡ take a xs ++ take n ys
filled a k n xs ys h w =
    let e = length-take-le a xs h in
    rw e at (take-append-add (take a xs) (ys ++ post_of a k xs) n) ∙ ap (λ l. take a xs ++ l) (take-append-le n ys (post_of a k xs) w)

pub loop-at-preserved : goal.loop-at-preserved
loop-at-preserved g c =
    let l = c.loop-at in
    let r = c.in_ok-n.ensures in
    let e = filled l.at (length l.buf - l.at) c.in_ok-n.n l.buf c.read.new.buf l.invariant.within r.bound.0 in
    record {
      within = search rules;
      bytes = subst (Consumes _ _) (sym e) (Consumes-trans _ _ _ _ _ l.invariant.bytes r.bytes.0);
    }

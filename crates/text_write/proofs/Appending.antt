-- Where there is room: one text after another is the two as one (`placed_then`), a text put first is all that there is, and what room is left. Assumes nothing.
use Prim.Native.Nat.{◌+◌, ℕ, ◌≤◌}
use mathlib.Core.Path.{◌≡◌, ◌∙◌}
use mathlib.Core.List.{List, ◌++◌}
use native.Mathlib.Omega.{arith}
use lib.ListN.{length, take}
use Rattle.text.proofs.Placing.{fronts, placed_length, placed_next, placed_then}
use Rattle.text_write.specs.Appending.{Appended}
use Rattle.text_write.specs.declared.Text.{Text}

pub appended_then : {t t' t'' : Text} {u v : List ℕ} → t.end + length u + length v ≤ length t.out.now → Appended t t' u → Appended t' t'' v → Appended t t'' (u ++ v)
appended_then h p q = record { same = q.same ∙ p.same; placed = placed_then _ _ _ _ _ _ _ _ h p.placed q.placed }

pub appended_front : {t t' : Text} {w : List ℕ} → t.end ≡ 0 → length w ≤ length t.out.now → Appended t t' w → take t'.end t'.out.now ≡ w
appended_front z h p = (fronts _ _ _ _ h (rw z at p.placed)).is

-- room for k bytes more
pub appended_room : {t t' : Text} {w : List ℕ} (k : ℕ) → t.end + length w + k ≤ length t.out.now → Appended t t' w → t'.end + k ≤ length t'.out.now
appended_room {t} {w = w} k h p =
    let room : t.end + length w ≤ length t.out.now = omega arith in
    omega (arith, placed_next _ _ _ _ _ room p.placed, placed_length _ _ _ _ _ room p.placed)

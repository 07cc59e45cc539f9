-- Keys are in the order of their numbers, and lie as far apart: by sign. Assumes nothing.
use mathlib.Core.Path.{◌≡◌, refl, sym, ap, ◌∙◌}
use mathlib.Core.Bool.{Bool, true, false}
use Prim.Native.Nat.{ℕ, zero, suc, ◌+◌, ◌-◌, ◌≤◌, ◌<◌}
use native.Mathlib.Omega.{arith}
use lib.Dec.{leb, ltb}
use lib.IntN.{ℤ, pos, negsuc, sub_ℕ, ◌-ℤ◌}
use lib.Signed.{le_z, lt_z}
use mir.Syntax.{w64}
use mir.Val.{SFits}
use borrow.Author.Tests.{ltb-true, ltb-false, le-ltb, lt-ltb, le-leb, lt-leb, leb-true, leb-false}
use Rattle.float.specs.Keys.{key_of}

pub key_below : (t : ℤ) → SFits w64 t → key_of t < 18446744073709551616
key_below (pos n) f = omega (arith, f.sfits)
key_below (negsuc n) f = omega arith

-- ---- the order
same_le : (p q r s : ℕ) (b : Bool) → leb r s ≡ b → (r ≤ s → p ≤ q) → (s < r → q < p) → leb p q ≡ b
same_le p q r s true e f g = le-leb p q (f (leb-true r s e))
same_le p q r s false e f g = lt-leb p q (g (leb-false r s e))

pub key_le : (s t : ℤ) → SFits w64 s → SFits w64 t → leb (key_of s) (key_of t) ≡ le_z s t
key_le (pos a) (pos b) f g = same_le (key_of (pos a)) (key_of (pos b)) a b (leb a b) refl (λ l. omega arith) (λ l. omega arith)
key_le (pos a) (negsuc b) f g = lt-leb (key_of (pos a)) (key_of (negsuc b)) (omega (arith, g.sfits))
key_le (negsuc a) (pos b) f g = le-leb (key_of (negsuc a)) (key_of (pos b)) (omega arith)
key_le (negsuc a) (negsuc b) f g = same_le (key_of (negsuc a)) (key_of (negsuc b)) b a (leb b a) refl (λ l. omega arith) (λ l. omega (arith, f.sfits, g.sfits))

same_lt : (p q r s : ℕ) (b : Bool) → ltb r s ≡ b → (r < s → p < q) → (s ≤ r → q ≤ p) → ltb p q ≡ b
same_lt p q r s true e f g = lt-ltb p q (f (ltb-true r s e))
same_lt p q r s false e f g = le-ltb p q (g (ltb-false r s e))

pub key_lt : (s t : ℤ) → SFits w64 s → SFits w64 t → ltb (key_of s) (key_of t) ≡ lt_z s t
key_lt (pos a) (pos b) f g = same_lt (key_of (pos a)) (key_of (pos b)) a b (ltb a b) refl (λ l. omega arith) (λ l. omega arith)
key_lt (pos a) (negsuc b) f g = le-ltb (key_of (pos a)) (key_of (negsuc b)) (omega arith)
key_lt (negsuc a) (pos b) f g = lt-ltb (key_of (negsuc a)) (key_of (pos b)) (omega (arith, f.sfits))
key_lt (negsuc a) (negsuc b) f g = same_lt (key_of (negsuc a)) (key_of (negsuc b)) b a (ltb b a) refl (λ l. omega (arith, f.sfits, g.sfits)) (λ l. omega arith)

-- ---- the difference
pub sub_above : (a b : ℕ) → b < a → sub_ℕ a b ≡ pos (suc (a - suc b))
sub_above a b h = rw (le-ltb a b (omega arith)) (ap pos (omega arith))

pub sub_below : (a b : ℕ) → a < b → sub_ℕ a b ≡ negsuc (b - suc a)
sub_below a b h = rw (lt-ltb a b h)

-- a - b and n - m are one number
same_difference : (a b n m : ℕ) → a + m ≡ n + b → sub_ℕ a b ≡ sub_ℕ n m
same_difference a b n m e = by (ltb a b) refl where
  by : (t : Bool) → ltb a b ≡ t → sub_ℕ a b ≡ sub_ℕ n m
  by true h =
      let l : a < b = ltb-true a b h in
      let g : b - suc a ≡ m - suc n = omega arith in
      sub_below a b l ∙ ap negsuc g ∙ sym (sub_below n m (omega arith))
  by false h =
      let l : b ≤ a = ltb-false a b h in
      let g : a - b ≡ n - m = omega arith in
      let r : sub_ℕ n m ≡ pos (n - m) = rw (le-ltb n m (omega arith)) in
      rw (le-ltb a b l) (ap pos g ∙ sym r)

pub keys_differ : (s t : ℤ) → SFits w64 s → SFits w64 t → t -ℤ s ≡ sub_ℕ (key_of t) (key_of s)
keys_differ (pos zero) (pos b) f g =
    let h : pos (b + 0) ≡ sub_ℕ b 0 = rw (le-ltb b 0 (omega arith)) (ap pos (omega arith)) in
    h ∙ same_difference b 0 (key_of (pos b)) (key_of (pos zero)) (omega arith)
keys_differ (pos (suc a)) (pos b) f g = same_difference b (suc a) (key_of (pos b)) (key_of (pos (suc a))) (omega arith)
keys_differ (pos zero) (negsuc b) f g = same_difference 0 (suc b) (key_of (negsuc b)) (key_of (pos zero)) (omega (arith, g.sfits))
keys_differ (pos (suc a)) (negsuc b) f g =
    let h : suc (b + a) ≡ key_of (pos (suc a)) - suc (key_of (negsuc b)) = omega (arith, g.sfits) in
    ap negsuc h ∙ sym (sub_below (key_of (negsuc b)) (key_of (pos (suc a))) (omega (arith, g.sfits)))
keys_differ (negsuc a) (pos b) f g =
    let h : b + suc a ≡ suc (key_of (pos b) - suc (key_of (negsuc a))) = omega (arith, f.sfits) in
    ap pos h ∙ sym (sub_above (key_of (pos b)) (key_of (negsuc a)) (omega (arith, f.sfits)))
keys_differ (negsuc a) (negsuc b) f g = same_difference (suc a) (suc b) (key_of (negsuc b)) (key_of (negsuc a)) (omega (arith, f.sfits, g.sfits))

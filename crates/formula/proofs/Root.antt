-- The root of a whole number's square, below 2 ^ 53, is that number. So a root that comes out whole is exact where the number under it is a square, or below 2 ^ 52, where what is no square has no whole root even when rounded.
use mathlib.Core.Path.{◌≡◌, refl, sym, ap, ◌∙◌}
use mathlib.Core.Logic.{◌⊎◌, inl, inr}
use mathlib.Core.Bool.{Bool, true, false, ◌||◌}
use Prim.Native.Nat.{ℕ, zero, suc, ◌*◌, ◌/◌, ◌%◌, ◌^◌, ◌<◌}
use native.Mathlib.Nat.{mul-one, mul-div_cancel, mul-mod_left, mul-le-mul_left}
use native.Mathlib.Omega.{arith}
use lib.Dec.{T, eqb, ltb, lt→ltb, ltb→lt, eqb→eq, lit≤, lit<}
use lib.IntN.{ℤ, pos, nat_abs}
use lib.Ieee.{Float, nan, inf, fin, binary64, up, down, size, of_int}
use lib.Ieee.Exact.{HasValue}
use lib.Ieee.Fits.{down_pos, and_i, eq→eqb}
use lib.Ieee.Positive.{first_pos}
use Rattle.float.specs.Root.{root, whole_root}
use Rattle.float.proofs.RootExact.{root_square, root_rounded}
use Rattle.formula.specs.Exact.{is_square, rootable}
use Rattle.formula.specs.Whole.{is_whole, signed, int_of}
use Rattle.formula.proofs.Exact.{whole_size, whole_small, whole_some, whole_none, value_int, same_size, same_sign}

-- ---- a whole float's value, and back
whole_value : (s : Bool) (m : ℕ) (e : ℤ) → T (is_whole (fin s m e)) → HasValue (fin s m e) s (m * up e / down e) 1
whole_value s m e w = (refl, mul-one (m * up e) ∙ whole_size s m e w)

value_whole : (x : Float) (s : Bool) (N : ℕ) → N < 2 ^ 53 → HasValue x s N 1 → T (is_whole x)
unfolding is_whole
value_whole nan s N h v = v
value_whole (inf t) s N h v = v
value_whole (fin t m e) s N h v =
    let z : m * up e ≡ N * down e = sym (mul-one (m * up e)) ∙ v.1 in
    let r : m * up e % down e ≡ 0 = ap (λ (x : ℕ). x % down e) z ∙ mul-mod_left N (down e) in
    let q : m * up e / down e ≡ N = ap (λ (x : ℕ). x / down e) z ∙ mul-div_cancel N (down_pos e) in
    and_i (eqb (m * up e % down e) 0) (ltb (m * up e / down e) (2 ^ 53)) (eq→eqb r) (lt→ltb (m * up e / down e) (2 ^ 53) (rw q h))

root_zero : (s : Bool) (e : ℤ) → root binary64 (fin s zero e) ≡ fin s zero e
unfolding root
root_zero s e = refl

root_minus : (m : ℕ) (e : ℤ) → T (is_whole (root binary64 (fin true (suc m) e))) → ⊥
unfolding root is_whole
root_minus m e w = w

-- ---- the root of a square
pub root_exact : (x : Float) (r : ℕ) → T (is_whole x) → int_of x ≡ pos (r * r) → T (is_whole (root binary64 x)) × (int_of (root binary64 x) ≡ pos r)
unfolding is_whole int_of
root_exact nan r w h = absurd w
root_exact (inf s) r w h = absurd w
root_exact (fin s zero e) r w h = rw (root_zero s e) (w, whole_none s e ∙ ap pos (nil r (whole_none s e) h))
  where
    nil : (r : ℕ) → int_of (fin s zero e) ≡ pos 0 → int_of (fin s zero e) ≡ pos (r * r) → 0 ≡ r
    nil zero n h = refl
    nil (suc r) n h = let z : 0 ≡ suc r * suc r = cc in absurd (omega arith)
root_exact (fin true (suc m) e) r w h = absurd (apart (suc m * up e / down e) (whole_some true m e w) (eqb→eq (suc m * up e / down e) 0 (same_sign true false (suc m * up e / down e) (r * r) h)))
  where
    apart : (k : ℕ) → 0 < k → k ≡ 0 → ⊥
    apart k h e = omega arith
root_exact (fin false (suc m) e) r w h =
    let k = suc m * up e / down e in
    let z : k ≡ r * r = same_size false false k (r * r) h in
    let P : 0 < r = first_pos r r (rw z at (whole_some false m e w)) in
    let S : r < 2 ^ 53 = few r k z P (whole_small false (suc m) e w) in
    let v = root_square binary64 (fin false (suc m) e) r P S (rw z at (whole_value false (suc m) e w)) in
    (value_whole (root binary64 (fin false (suc m) e)) false r S v, value_int (root binary64 (fin false (suc m) e)) false r v)
  where
    few : (r k : ℕ) → k ≡ r * r → 0 < r → k < 2 ^ 53 → r < 2 ^ 53
    few r k z P h = omega (arith, mul-le-mul_left r P)

-- ---- a root that is rounded to a whole number
pub record Square (x y : Float) : Type 0 where
  pub side : ℕ
  pub is : int_of y ≡ pos side
  pub square : int_of x ≡ pos (side * side)

root_small : (x : Float) → T (is_whole x) → nat_abs (int_of x) < 2 ^ 52 → T (is_whole (root binary64 x)) → Square x (root binary64 x)
unfolding is_whole int_of
root_small nan w h u = absurd w
root_small (inf s) w h u = absurd w
root_small (fin s zero e) w h u = record { side = 0; is = rw (root_zero s e) (whole_none s e); square = whole_none s e }
root_small (fin true (suc m) e) w h u = absurd (root_minus m e u)
root_small (fin false (suc m) e) w h u = go (root binary64 (fin false (suc m) e)) refl u
  where
    go : (y : Float) → root binary64 (fin false (suc m) e) ≡ y → T (is_whole y) → Square (fin false (suc m) e) y
    go nan r u = absurd u
    go (inf s) r u = absurd u
    go (fin s n d) r u =
        let x = fin false (suc m) e in
        let k = suc m * up e / down e in
        let R = n * up d / down d in
        let z = root_rounded binary64 26 (lit< tt) (lit≤ tt) x k s R (whole_some false m e w) h (whole_value false (suc m) e w) (rw r (whole_value s n d u)) in
        record { side = R; is = ap (λ (t : Bool). signed t R) (sym z.0); square = ap pos (sym z.1) }

-- what has a root is not negative
not_negative : (x : Float) → T (is_whole (root binary64 x)) → int_of x ≡ pos (nat_abs (int_of x))
unfolding int_of
not_negative nan u = refl
not_negative (inf s) u = refl
not_negative (fin s zero e) u = cc (whole_none s e)
not_negative (fin false (suc m) e) u = refl
not_negative (fin true (suc m) e) u = absurd (root_minus m e u)

pub root_whole : (x : Float) → T (is_whole x) → T (rootable x) → T (is_whole (root binary64 x)) → Square x (root binary64 x)
unfolding rootable is_square
root_whole x w h u = let n = nat_abs (int_of x) in elim (or_split (ltb n (2 ^ 52)) (eqb (whole_root (size n) n * whole_root (size n) n) n) h) [
  | inl l ↦ root_small x w (ltb→lt n (2 ^ 52) l) u
  | inr q ↦ let r = whole_root (size n) n in
      let z : int_of x ≡ pos (r * r) = not_negative x u ∙ ap pos (sym (eqb→eq (r * r) n q)) in
      record { side = r; is = (root_exact x r w z).1; square = z }
]
  where
    or_split : (a b : Bool) → T (a || b) → T a ⊎ T b
    or_split true b t = inl tt
    or_split false b t = inr t

-- 2 ^ 52 is the best bound: √(2 ^ 52 + 1) is rounded to 2 ^ 26, which is √(2 ^ 52)
pub no_square : root binary64 (of_int binary64 (pos (suc (2 ^ 52)))) ≡ of_int binary64 (pos (2 ^ 26))
unfolding root of_int
no_square = refl

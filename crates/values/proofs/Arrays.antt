-- What follows a `[`: one law for each way out.
use Prim.Native.Nat.{ℕ, zero, suc, ◌+◌, ◌-◌, ◌≤◌, ◌<◌}
use mathlib.Core.Bool.{Bool, true, false}
use mathlib.Core.List.{List, [], ◌∷◌}
use mathlib.Core.Path.{◌≡◌, refl, sym, ap, subst, ◌∙◌}
use native.Mathlib.Omega.{arith}
use native.Mathlib.Nat.{add-zero}
use lib.Dec.{eqb, leb}
use lib.ListN.{length, take}
use lib.Seq.{length-take-le}
use borrow.Author.Tests.{eqb-true, eq-eqb, leb-false}
use Rattle.std.specs.Prelude.{Result, Ok, Err}
use Rattle.meaning.specs.declared.Refused.TheVariants.{TooDeep}
use Rattle.meaning.specs.Base.{pick, final}
use Rattle.laws.specs.Cases.{on}
use Rattle.values.specs.declared.State.{State}
use Rattle.values.specs.declared.Stopped.{Stopped}
use Rattle.values.specs.Out.{Out, fine, wrong, join, and_then, moved, Replies, Ready, Filled, Made}
use Rattle.values.specs.Fill.{array_slot, makes, open_out, brackets_out, value_out, list_out}
use Rattle.values.proofs.Outs.{stop, replies_join, Went, went, failed, Left, left_of, left_made, filled_of, filled_fault, then_left}

pub part_long : (s : List ℕ) → length s - 1 ≡ length (take (length s - 1) s)
part_long s = sym (length-take-le (length s - 1) s (omega arith))

-- what an array that was opened says
pub record Opened (limit parent made : ℕ) (s : List ℕ) : Type 0 where
  pub is : open_out limit parent made s ≡ fine [] (array_slot parent ∷ [])
  pub some : 1 ≤ length s
  pub less : made < limit

final_some : (s : List ℕ) → final s ≡ 93 → 1 ≤ length s
final_some [] e = absurd (omega arith)
final_some (b ∷ s) e = omega arith

opened : (limit parent made : ℕ) (s : List ℕ) → (open_out limit parent made s).fault ≡ 0 → Opened limit parent made s
unfolding open_out makes
opened limit parent made s z =
    on (eqb (final s) 93)
    (λ e. on (leb limit made)
    (λ f. let c : ◌≡◌ {A = ℕ} 16 0 = rw (e, f) at z in absurd (omega arith))
    (λ f. record { is = rw (e, f); some = final_some s (eqb-true (final s) 93 e); less = leb-false limit made f }))
    (λ e. let c : ◌≡◌ {A = ℕ} 11 0 = rw e at z in absurd (omega arith))

module _ (limit parent used made : ℕ) (s : List ℕ) where
  brackets_zero : (d : ℕ) → d ≡ 0 → brackets_out limit d parent used made s ≡ wrong 14 []
  unfolding brackets_out
  brackets_zero zero e = refl
  brackets_zero (suc d) e = absurd (omega arith)

  pub brackets_suc : (d : ℕ) → (d ≡ 0 → ⊥) → brackets_out limit d parent used made s
      ≡ and_then used made (open_out limit parent made s) (λ u m. list_out limit (d - 1) (made + 2) u m (take (length s - 1) s))
  unfolding brackets_out list_out value_out
  brackets_suc zero n = absurd (n refl)
  brackets_suc (suc d) n =
      let e : suc d - 1 ≡ d = omega arith in
      ap (λ (x : ℕ). and_then used made (open_out limit parent made s) (λ u m. list_out limit x (made + 2) u m (take (length s - 1) s))) (sym e)

module _ (limit depth parent : ℕ) (s store tree : List ℕ) (st : State) (ready : Ready limit s store tree st) where
  pub array_deep : depth ≡ 0 → Filled limit s store tree store tree st (brackets_out limit depth parent st.used st.made s) (stop TooDeep st)
  array_deep z = rw (brackets_zero limit parent st.used st.made s depth z) (filled_fault limit s store tree st TooDeep ready.made)

  module _ (tree₁ : List ℕ) (r : Result State Stopped) (o : Made limit tree tree₁ st (open_out limit parent st.made s) r) where
    abbrev out : Out
    out = open_out limit parent st.made s

    abbrev rest : ℕ → ℕ → Out
    rest u m = list_out limit (depth - 1) (st.made + 2) u m (take (length s - 1) s)

    by : (depth ≡ 0 → ⊥) → (b : Bool) → eqb out.fault 0 ≡ b → brackets_out limit depth parent st.used st.made s
        ≡ pick b (join out (rest (st.used + length out.bytes) (st.made + length out.slots))) out
    by d b e = brackets_suc limit parent st.used st.made s depth d ∙ ap (λ (x : Bool). pick x (join out (rest (st.used + length out.bytes) (st.made + length out.slots))) out) e

    pub array_fault : (depth ≡ 0 → ⊥) → (e : Stopped) → r ≡ Err e → (v : Result State Stopped) → v ≡ Err e
        → Filled limit s store tree store tree₁ st (brackets_out limit depth parent st.used st.made s) v
    array_fault d e q v z =
        let g = failed st out r o.says e q in
        let f : Left limit (length s) store tree store tree₁ st out = left_made o in
        rw (by d false g.fails, z) (filled_of f (omega arith) (rw q at o.says))

    module _ (next : State) (e : r ≡ Ok next) where
      gone : Went st out next
      gone = went st out r o.says next e

      been : Opened limit parent st.made s
      been = opened limit parent st.made s gone.calm

      used_is : next.used ≡ st.used
      used_is = ap (λ (x : State). x.used) (sym gone.there) ∙ ap (λ (x : Out). st.used + length x.bytes) been.is ∙ add-zero st.used

      made_is : next.made ≡ st.made + 1
      made_is = ap (λ (x : State). x.made) (sym gone.there) ∙ ap (λ (x : Out). st.made + length x.slots) been.is

      pub array_some : 1 ≤ length s
      array_some = been.some

      kept : Left limit 0 store tree store tree₁ st out
      kept = left_made o

      pub array_read : (depth ≡ 0 → ⊥) → (store' tree' : List ℕ) (a : Result State Stopped)
          → Filled limit (take (length s - 1) s) store tree₁ store' tree' next (list_out limit (depth - 1) (st.made + 2) next.used next.made (take (length s - 1) s)) a
          → Filled limit s store tree store' tree' st (brackets_out limit depth parent st.used st.made s) a
      array_read d store' tree' a f =
          let z : brackets_out limit depth parent st.used st.made s ≡ join out (rest next.used next.made) =
          by d true (eq-eqb out.fault 0 gone.calm) ∙ ap (λ (x : State). join out (rest x.used x.made)) gone.there in
          let p : Left limit (length (take (length s - 1) s)) store tree₁ store' tree' (moved st out) (rest next.used next.made) =
          subst (λ (x : State). Left limit (length (take (length s - 1) s)) store tree₁ store' tree' x (rest next.used next.made)) (sym gone.there) (left_of f) in
          let q : Left limit (0 + length (take (length s - 1) s)) store tree store' tree' st (join out (rest next.used next.made)) =
          then_left kept p (omega (arith, ready.room)) ready.slots in
          let says : Replies st (join out (rest next.used next.made)) a =
          replies_join st out (rest next.used next.made) a (subst (λ (x : State). Replies x (rest next.used next.made) a) (sym gone.there) f.says) in
          rw z (filled_of q (omega (arith, part_long s)) says)

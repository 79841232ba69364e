-- The partition that a reference finds: one law for each way out.
use Prim.Native.Nat.{ℕ, zero, suc, ◌+◌, ◌-◌, ◌≤◌}
use mathlib.Core.Bool.{true}
use mathlib.Core.List.{List as Seq, [], ◌∷◌, map}
use mathlib.Core.Path.{◌≡◌, refl, sym, ap, ◌∙◌}
use native.Mathlib.Omega.{arith}
use borrow.Author.Tests.{lt-ltb, le-ltb, eqb-false}
use lib.Dec.{eqb, ltb}
use lib.ListN.{length, take, get_or, replicate}
use lib.Seq.{take-append_seam}
use Rattle.std.proofs.Common.{Option, None, Some}
use Rattle.std.specs.List.{slice_get}
use Rattle.std.proofs.lemmas.Option.{slice_get_within, get_or_from_slice_get}
use Rattle.meaning.specs.Refusal.{Answer, accepted, refused, accepted_then, number_of}
use Rattle.meaning.specs.Fields.{each, listed}
use Rattle.laws.specs.Cases.{on}
use Rattle.tree.specs.Doors.{items}
use Rattle.schema.specs.declared.Text.{Text}
use Rattle.schema.specs.declared.Partition.{Partition}
use Rattle.parse.specs.declared.Refusal.{Refusal}
use Rattle.parse.specs.declared.entry.List.{List}
use Rattle.parse.specs.declared.entry.Partitions.{Partitions}
use Rattle.std.specs.Prelude.{Some, None}
use Rattle.parse.specs.Entries.{blank, partitions, partition_at, partition_r, Partitioned}
use Rattle.parse.specs.Views.{partition_list}
use Rattle.layout.specs.Parts.{part_name, aim}
use Rattle.plan.specs.Targets.{given, none, found, partition}

-- ---- the partitions that were read

-- a refusal has a number
abbrev Numbered : {X : Type 0} → Answer X → Type 0
Numbered (accepted x) = Unit {0}
Numbered (refused f section place) = 1 ≤ number_of f

after_numbered : {X : Type 0} (x : X) (a : Answer (Seq X)) → Numbered a → Numbered (accepted_then a (λ xs. accepted (x ∷ xs)))
after_numbered x (accepted xs) h = tt
after_numbered x (refused f s p) h = h

module _ (room store : Seq ℕ) (made : ℕ) where
  each_numbered : (i : ℕ) (ns : Seq ℕ) → Numbered (each (partition_r room store made) 3 i ns)
  each_numbered i [] = tt
  each_numbered i (n ∷ ns) =
      on (eqb (partition_at room store made n).fault 0)
      (λ e. rw e (after_numbered (partition_at room store made n).partition (each (partition_r room store made) 3 (i + 1) ns) (each_numbered (i + 1) ns)))
      (λ e. rw e (let z = eqb-false (partition_at room store made n).fault 0 e in omega (arith, z)))

  parts_numbered : (l : List) → Numbered (partitions room store made l 32)
  unfolding listed
  parts_numbered l =
      on (ltb 32 (length (items room l.end l.place 0)))
      (λ e. rw e (omega arith))
      (λ e. rw e (each_numbered 0 (items room l.end l.place 0)))

-- partitions at the head of an array
pub record Taken (ps xs : Seq Partition) (count : ℕ) : Type 0 where
  pub long : count ≡ length ps
  pub fits : count ≤ 32
  pub are : take count xs ≡ ps

module _ (p : Partitions) where
  taken_by : (a : Answer (Seq Partition)) → Numbered a → Partitioned a p → p.fault.number ≡ 0 → Taken (given a) p.items p.count
  taken_by (accepted ps) h q z =
      record { long = q.1; fits = omega (arith, q.1, q.2); are = rw (q.1, q.3) (take-append_seam ps (replicate (32 - length ps) blank)) }
  taken_by (refused f s n) h q z = let e : p.fault.number ≡ number_of f = ap (λ (r : Refusal). r.number) q.0 in absurd (omega (arith, e))

  none_by : (a : Answer (Seq Partition)) → Partitioned a p → (p.fault.number ≡ 0 → ⊥) → given a ≡ []
  none_by (accepted ps) q z = absurd (z (ap (λ (r : Refusal). r.number) q.0))
  none_by (refused f s n) q z = refl

-- where there is no item, as many stand before the place
past : (ps : Seq Partition) (at : ℕ) → slice_get ps at ≡ None → length ps ≤ at
past [] at e = omega arith
past (p ∷ ps) zero e = cc
past (p ∷ ps) (suc at) e = omega (arith, past ps at e)

module _ (room store : Seq ℕ) (made : ℕ) (t : Text) (l : List) (e : l ≡ partition_list room store made) (p : Partitions) (q : Partitioned (partitions room store made l 32) p) where
  pub target_none : (p.fault.number ≡ 0 → ⊥) → None ≡ partition room store made t
  unfolding found
  target_none z =
      let n : given (partitions room store made (partition_list room store made) 32) ≡ [] = none_by p (partitions room store made (partition_list room store made) 32) (rw e at q) z in
      rw (n, le-ltb (aim true store [] t) 0 (omega arith))

  module _ (z : p.fault.number ≡ 0) where
    taken : Taken (given (partitions room store made (partition_list room store made) 32)) p.items p.count
    taken = taken_by p (partitions room store made (partition_list room store made) 32) (parts_numbered room store made (partition_list room store made)) (rw e at q) z

    pub target_fits : p.count ≤ 32
    target_fits = taken.fits

    module _ (r : Option Partition) (f : r ≡ slice_get (take p.count p.items) (aim true store (map (part_name store) (take p.count p.items)) t)) where
      place : ℕ
      place = aim true store (map (part_name store) (take p.count p.items)) t

      pub target_found : (x : Partition) → r ≡ Some x → Some x ≡ partition room store made t
      unfolding found place
      target_found x h =
          let g : slice_get (take p.count p.items) place ≡ Some x = sym f ∙ h in
          let d : get_or (take p.count p.items) place none ≡ x = get_or_from_slice_get (take p.count p.items) place x none g in
          rw (← taken.are, lt-ltb place (length (take p.count p.items)) (slice_get_within (take p.count p.items) place x g), d)

      pub target_not : r ≡ None → None ≡ partition room store made t
      unfolding found place
      target_not h =
          let g : slice_get (take p.count p.items) place ≡ None = sym f ∙ h in
          rw (← taken.are, le-ltb place (length (take p.count p.items)) (past (take p.count p.items) place g))

      pub target_is : (q : Option Partition) → r ≡ q → q ≡ partition room store made t
      target_is None h = target_not h
      target_is (Some x) h = target_found x h

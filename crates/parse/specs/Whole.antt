-- Entries one after the other, and the records that stand for 01's.
use Rattle.std.specs.Prelude.{ℕ, suc, ◌+◌, ◌≤◌, List as Seq, [], ◌∷◌, map, refl, eqb, ltb, length}
use Rattle.std.proofs.Math.Path.{◌≡◌}
use Rattle.std.proofs.Common.{sym, ap, ◌∙◌, arith}
use borrow.Author.Tests.{ltb-false}
use Rattle.meaning.specs.declared.Limits.{Limits}
use Rattle.meaning.specs.Refusal.{R, Answer, accepted, refused, numbered, accepted_then}
use Rattle.meaning.specs.Fields.{each, listed}
use Rattle.meaning.specs.Schema as meant
use Rattle.meaning.specs.Records as records
use Rattle.meaning.specs.Utf8.{valid}
use Rattle.laws.specs.Cases.{on}
use Rattle.tree.specs.declared.Fields.{Fields}
use Rattle.schema.specs.declared.Text.{Text}
use Rattle.schema.specs.Words.{word}
use Rattle.schema.specs.Texts.{spelled}
use Rattle.parse.specs.Refusals.{refusal, earlier}
use Rattle.parse.specs.Entries as entries
use Rattle.parse.specs.Entries.{as_r, refusal_of}
use Rattle.parse.specs.Front as front
use Rattle.parse.specs.Refused.{partition_numbers, component_numbers, application_numbers, lent_text}
use Rattle.parse.specs.Meant.{board_meant, image_meant, partition_meant, component_meant, application_meant}
use Rattle.parse.specs.Reads.{Gives}
use Rattle.parse.specs.Answers.{Says, says_after, says_made, says_told, says_by, earlier_clear}

-- ---- entries one after the other

-- these entries, one for one: what is read by number is what a definition reads
abbrev pub Pairs : {A X : Type 0} → (A → R X) → (ℕ → ℕ) → (ℕ → X) → Seq A → Seq ℕ → Type 0
Pairs way fault value [] [] = Unit {0}
Pairs way fault value [] (n ∷ ns) = ⊥
Pairs way fault value (a ∷ rest) [] = ⊥
Pairs way fault value (a ∷ rest) (n ∷ ns) = Gives (way a) (fault n) (value n) × Pairs way fault value rest ns

-- no entry has a fault
abbrev pub Clear : (ℕ → ℕ) → Seq ℕ → Type 0
Clear fault [] = Unit {0}
Clear fault (n ∷ ns) = (fault n ≡ 0) × Clear fault ns

-- readers by number, with their fault
module _ {Y : Type 0} (fault : ℕ → ℕ) (given : ℕ → Y) (section : ℕ) where
  abbrev pub reader : ℕ → R Y
  reader n = as_r (fault n) (given n)

  refusal_more : (a : Answer (Seq Y)) (y : Y) → refusal_of (accepted_then a (λ ys. accepted (y ∷ ys))) ≡ refusal_of a
  refusal_more (accepted ys) y = refl
  refusal_more (refused f s p) y = refl

  -- the first entry's refusal comes before the others'
  refusal_each : (i n : ℕ) (ns : Seq ℕ) → refusal_of (each reader section i (n ∷ ns)) ≡ earlier (refusal (fault n) section i) (refusal_of (each reader section (i + 1) ns))
  refusal_each i n ns =
      on (eqb (fault n) 0) (λ e. rw e (refusal_more (each reader section (i + 1) ns) (given n))) (λ e. rw e)

  each_clear : (ns : Seq ℕ) (i : ℕ) → (refusal_of (each reader section i ns)).number ≡ 0 → Clear fault ns
  each_clear [] i e = tt
  each_clear (n ∷ ns) i e =
      let c = earlier_clear (refusal (fault n) section i) (refusal_of (each reader section (i + 1) ns)) (rw (refusal_each i n ns) at e) in
      (c.0, each_clear ns (i + 1) c.1)

  -- where nothing is refused the list is not too long, and no entry has a fault
  pub listed_few : (ns : Seq ℕ) (limit : ℕ) → (refusal_of (listed reader section limit ns)).number ≡ 0 → length ns ≤ limit
  unfolding listed
  listed_few ns limit e =
      on (ltb limit (length ns)) (λ f. let z : ◌≡◌ {A = ℕ} 25 0 = rw f at e in absurd (omega arith)) (λ f. ltb-false limit (length ns) f)

  pub listed_clear : (ns : Seq ℕ) (limit : ℕ) → (refusal_of (listed reader section limit ns)).number ≡ 0 → Clear fault ns
  unfolding listed
  listed_clear ns limit e =
      on (ltb limit (length ns)) (λ f. let z : ◌≡◌ {A = ℕ} 25 0 = rw f at e in absurd (omega arith)) (λ f. each_clear ns 0 (rw f at e))

  more_given : (a : Answer (Seq Y)) (y : Y) (zs : Seq Y) → accepted_then a (λ ys. accepted (y ∷ ys)) ≡ accepted zs → (ys : Seq Y) × (a ≡ accepted ys) × (y ∷ ys ≡ zs)
  more_given (accepted ys) y zs e = (ys, refl, cc)
  more_given (refused f s p) y zs e = let z : ◌≡◌ {A = ℕ} 0 1 = cc in absurd (omega arith)

  each_given : (ns : Seq ℕ) (i : ℕ) (ys : Seq Y) → each reader section i ns ≡ accepted ys → ys ≡ map given ns
  each_given [] i ys e = cc
  each_given (n ∷ ns) i ys e =
      on (eqb (fault n) 0)
      (λ f.
      let m = more_given (each reader section (i + 1) ns) (given n) ys (rw f at e) in
      sym m.2 ∙ ap (λ (zs : Seq Y). given n ∷ zs) (each_given ns (i + 1) m.0 m.1))
      (λ f. let d : refused (numbered (fault n)) section i ≡ accepted ys = rw f at e in let z : ◌≡◌ {A = ℕ} 0 1 = cc in absurd (omega arith))

  -- what is accepted is what the numbers give
  pub listed_given : (ns : Seq ℕ) (limit : ℕ) (ys : Seq Y) → listed reader section limit ns ≡ accepted ys → ys ≡ map given ns
  unfolding listed
  listed_given ns limit ys e =
      on (ltb limit (length ns))
      (λ f. let d : refused (numbered 25) section limit ≡ accepted ys = rw f at e in let z : ◌≡◌ {A = ℕ} 0 1 = cc in absurd (omega arith))
      (λ f. each_given ns 0 ys (rw f at e))

module _ {A X Y : Type 0} (way : A → R X) (fault : ℕ → ℕ) (value : ℕ → X) (given : ℕ → Y) (section : ℕ) where
  pairs_length : (all : Seq A) (ns : Seq ℕ) → Pairs way fault value all ns → length ns ≡ length all
  pairs_length [] [] p = refl
  pairs_length [] (n ∷ ns) p = absurd p
  pairs_length (a ∷ rest) [] p = absurd p
  pairs_length (a ∷ rest) (n ∷ ns) p = ap suc (pairs_length rest ns p.1)

  pub each_says : (all : Seq A) (ns : Seq ℕ) (i : ℕ) → Pairs way fault value all ns
      → Says (each way section i all) (refusal_of (each (reader fault given section) section i ns)) (map value ns)
  each_says [] [] i p = record { told_by = (refl, refl) }
  each_says [] (n ∷ ns) i p = absurd p
  each_says (a ∷ rest) [] i p = absurd p
  each_says (a ∷ rest) (n ∷ ns) i p =
      says_by (sym (refusal_each fault given section i n ns))
      (says_after _ (says_told section i p.0) (says_made (λ xs. value n ∷ xs) (each_says rest ns (i + 1) p.1)))

  -- with the list's length first
  pub listed_says : (all : Seq A) (ns : Seq ℕ) (limit : ℕ) → Pairs way fault value all ns
      → Says (listed way section limit all) (refusal_of (listed (reader fault given section) section limit ns)) (map value ns)
  unfolding listed
  listed_says all ns limit p =
      rw (pairs_length all ns p)
      (on (ltb limit (length all)) (λ e. rw e (record { told_by = (refl, omega arith) })) (λ e. rw e (each_says all ns 0 p)))

-- ---- the entries that numbers stand for

module _ (room store : Seq ℕ) (made : ℕ) (name : Seq ℕ) where
  abbrev pub partition_of : ℕ → meant.Partition
  partition_of n = partition_meant room store made name (entries.partition_at room store made n).partition

  module _ (limit : ℕ) where
    abbrev pub component_of : ℕ → meant.Component
    component_of n = component_meant room store made name (entries.component_at room store made n limit).component

    abbrev pub application_of : ℕ → meant.Application
    application_of n = application_meant room store made name (entries.application_at room store made n limit).application

-- ---- what is given

pub lent_is : (store given : Seq ℕ) → records.lent_name given ≡ spelled store given (lent_text given)
unfolding records.lent_name word lent_text
lent_is store given = on (valid given) (λ e. rw e) (λ e. rw e)

module _ (room store : Seq ℕ) (made : ℕ) (name : Seq ℕ) (root : Fields) (lim : Limits) where
  -- 01's records that the rooms' records stand for
  abbrev pub preset_meant : Text → meant.Preset
  preset_meant lent =
      record {
        board = board_meant room store made name (front.front_read room store made root lent).board;
        image = image_meant room store made name (front.front_read room store made root lent).image;
        partitions = map (partition_of room store made name) (partition_numbers room store made root);
        components = map (component_of room store made name lim.features) (component_numbers room store made root);
        applications = map (application_of room store made name lim.features) (application_numbers room store made root lim.applications);
      }

-- A rule's refusal is told at an entry, so its place is small.
use Prim.Native.Nat.{ℕ, ◌+◌, ◌≤◌}
use mathlib.Core.Bool.{Bool}
use mathlib.Core.List.{List as Seq, [], ◌∷◌, map}
use mathlib.Core.Path.{◌≡◌}
use native.Mathlib.Omega.{arith}
use borrow.Author.Tests.{ltb-true}
use lib.Dec.{eqb, ltb}
use lib.ListN.{length, length-map}
use Rattle.meaning.specs.Base.{pick, nil?}
use Rattle.meaning.specs.Limits.{of01}
use Rattle.meaning.specs.Refusal.{accepted, refused}
use Rattle.meaning.specs.Verdict as verdicts
use Rattle.meaning.specs.Verdict.{Verdict, first_refusal, in_turn}
use Rattle.meaning.specs.Layout as meant
use Rattle.meaning.specs.Rules as rules
use Rattle.meaning.specs.Schema as schemas
use Rattle.laws.specs.Cases.{on}
use Rattle.tree.specs.Doors.{fields_of}
use Rattle.schema.specs.declared.Board.{Board}
use Rattle.schema.specs.declared.Image.{Image}
use Rattle.schema.specs.declared.Chip.{Chip}
use Rattle.schema.specs.declared.Partition.{Partition}
use Rattle.schema.specs.Words.{chip_meant}
use Rattle.parse.specs.Entries.{refusal_of, partition_at}
use Rattle.parse.specs.Refused.{lent_text, partition_numbers}
use Rattle.parse.specs.Front.{front_read}
use Rattle.parse.specs.Placed.{earlier_place}
use Rattle.parse.specs.Meant.{board_meant, image_meant}
use Rattle.parse.specs.Given as goal
use Rattle.parse.specs.Verdict.{verdict}
use Rattle.meaning.specs.declared.Refused.{Refused}
use Rattle.turns.specs.declared.Mark.{Mark}
use Rattle.turns.specs.Marks.{Fault, any_of, fault_of, mark_rule, noted, judged}
use Rattle.layout.specs.Parts.{part_name, part_meant}
use Rattle.validate.specs.Entries.{component_at, application_at}
use Rattle.validate.specs.Fronts as fronts
use Rattle.validate.specs.Gathered.{components, applications}
use Rattle.validate.specs.Faults as faults
use Rattle.validate.specs.Faults.{in_entry, components_fault, applications_fault, boot_fault, clash_fault, rest_fault, lists_fault, layout_fault}

-- ---- verdicts

-- a refusal of v is told below n
record Low (n : ℕ) (v : Verdict) : Type 0 where
  low : (refusal_of v).place ≤ n

low_judged : (section number : ℕ) → Low 0 (verdicts.judged section 0 number)
low_judged section number = record { low = on (eqb number 0) (λ e. rw e (omega arith)) (λ e. rw e (omega arith)) }

low_and : {v w : Verdict} {n : ℕ} → Low n v → Low n w → Low n (first_refusal v w)
low_and {v} {w} {n} h k = record { low = go v h.low }
  where
    go : (u : Verdict) → (refusal_of u).place ≤ n → (refusal_of (first_refusal u w)).place ≤ n
    go (accepted t) l = k.low
    go (refused f s p) l = l

fault_and : (v w : Verdict) (n : ℕ) → (fault_of v).place ≤ n → (fault_of w).place ≤ n → (fault_of (first_refusal v w)).place ≤ n
fault_and (accepted u) w n h k = k
fault_and (refused f s p) w n h k = h

fault_judged : (section place number n : ℕ) → place ≤ n → (fault_of (verdicts.judged section place number)).place ≤ n
fault_judged section place number n h = on (eqb number 0) (λ e. rw e (omega arith)) (λ e. rw e h)

fault_turn : {X S : Type 0} (rule : S → X → ℕ) (next : S → X → S) (section i : ℕ) (s : S) (xs : Seq X) (n : ℕ) → i + length xs ≤ n → (fault_of (in_turn rule next section i s xs)).place ≤ n
fault_turn rule next section i s [] n h = omega arith
fault_turn rule next section i s (x ∷ xs) n h =
    fault_and (verdicts.judged section i (rule s x)) (in_turn rule next section (i + 1) (next s x) xs) n (fault_judged section i (rule s x) n (omega (arith, h)))
    (fault_turn rule next section (i + 1) (next s x) xs n (omega (arith, h)))

-- ---- groups

low_entry : (section : ℕ) (f : Fault) (n : ℕ) → f.place ≤ n → (in_entry section f).place ≤ n
unfolding in_entry
low_entry section f n h = on (eqb f.number 0) (λ e. rw e (omega arith)) (λ e. rw e h)

low_marks : (number : ℕ) (bytes : Seq ℕ) (ms : Seq (Mark Refused)) (n : ℕ) → length ms ≤ n → (judged number bytes ms).place ≤ n
unfolding judged
low_marks number bytes ms n h = fault_turn (mark_rule number bytes) (noted bytes) 0 0 [] ms n (omega (arith, h))

low_components : (store : Seq ℕ) (ms : Seq (Mark Refused)) (n : ℕ) → length ms ≤ n → (components_fault store ms).place ≤ n
unfolding components_fault
low_components store ms n h =
    on (nil? ms) (λ e. rw e (omega arith)) (λ e. rw e (low_entry 4 (judged 51 store ms) n (low_marks 51 store ms n h)))

low_boot : (first : Bool) (n : ℕ) → (boot_fault first).place ≤ n
low_boot first n = on first (λ e. rw e (omega arith)) (λ e. rw e (omega arith))

low_clash : (cs all at n : ℕ) → cs ≤ n → all ≤ n → (clash_fault cs all at).place ≤ n
unfolding clash_fault
low_clash cs all at n h k =
    on (ltb at cs) (λ e. rw e (omega (arith, h, ltb-true at cs e)))
    (λ e. rw e (on (ltb at all) (λ f. rw f (omega (arith, k, ltb-true at all f))) (λ f. rw f (omega arith))))

low_layout : (chip : schemas.Chip) (ps : Seq schemas.Partition) (n : ℕ) → length ps ≤ n → (fault_of (meant.layout chip ps)).place ≤ n
unfolding meant.layout
low_layout chip [] n h = omega arith
low_layout chip (p ∷ ps) n h =
    fault_and (verdicts.judged 3 0 (meant.start_fault p)) (in_turn (meant.partition_fault (schemas.erase_for chip)) meant.passed 3 0 meant.nothing_before (p ∷ ps)) n
    (fault_judged 3 0 (meant.start_fault p) n (omega arith))
    (fault_turn (meant.partition_fault (schemas.erase_for chip)) meant.passed 3 0 meant.nothing_before (p ∷ ps) n (omega (arith, h)))

front_low : (b : schemas.Board) (i : schemas.Image) → Low 0 (rules.front_rules b i)
unfolding rules.front_rules
front_low b i =
    low_and (low_judged 2 (rules.device_fault b i))
    (low_and (low_judged 1 (pick (nil? b.profile) 32 0)) (low_and (low_judged 2 (pick (verdicts.long i.boot_app) 33 0)) (low_judged 1 (rules.width_fault b.chip (rules.chip_for b.target)))))

low_front : (store name : Seq ℕ) (b : Board) (i : Image) → (fronts.ruled store name b i).place ≤ 0
unfolding fronts.ruled
low_front store name b i = (front_low (board_meant store store 0 name b) (image_meant store store 0 name i)).low

-- ---- all of them

-- nothing was refused when it was read
module _ (room store : Seq ℕ) (made : ℕ) (name : Seq ℕ) (clear : (verdict room store made name of01).number ≡ 0) where
  few_parts : length (partition_numbers room store made (fields_of room made 1)) ≤ 32
  few_parts = goal.partitions_few room store made (fields_of room made 1) of01 (lent_text name) clear

  few_components : length (components room store made) ≤ 64
  few_components = goal.components_few room store made (fields_of room made 1) of01 (lent_text name) clear

  few_applications : length (applications room store made) ≤ 64
  few_applications = goal.applications_few room store made (fields_of room made 1) of01 (lent_text name) clear

  low_lists : (ps : Seq Partition) → (lists_fault room store made ps).place ≤ 128
  unfolding lists_fault rest_fault
  low_lists ps =
      let cs = length (components room store made) in
      let marks : Seq (Mark Refused) = map (λ n. (component_at room store made (map (part_name store) ps) n).mark) (components room store made) in
      let others : Seq (Mark Refused) = map (λ n. (application_at room store made ps n).mark) (applications room store made) in
      earlier_place (components_fault store marks) _ 128
      (low_components store marks 128 (omega (arith, goal.map_length (λ n. (component_at room store made (map (part_name store) ps) n).mark) (components room store made), few_components)))
      (earlier_place (clash_fault cs (cs + length (applications room store made)) _) _ 128 (low_clash cs (cs + length (applications room store made)) _ 128 (omega (arith, few_components)) (omega (arith, few_components, few_applications)))
      (earlier_place (applications_fault store others) _ 128
      (low_entry 5 (judged 65 store others) 128 (low_marks 65 store others 128 (omega (arith, goal.map_length (λ n. (application_at room store made ps n).mark) (applications room store made), few_applications))))
      (low_boot (any_of (λ n. (component_at room store made (map (part_name store) ps) n).first) (components room store made)) 128)))

  low_layouts : (chip : Chip) → (layout_fault room store made chip).place ≤ 128
  unfolding layout_fault
  low_layouts chip =
      let ps = map (λ n. (partition_at room store made n).partition) (partition_numbers room store made (fields_of room made 1)) in
      earlier_place (in_entry 3 (fault_of (meant.layout (chip_meant chip) (map (part_meant store) ps)))) (lists_fault room store made ps) 128
      (low_entry 3 _ 128
      (low_layout (chip_meant chip) (map (part_meant store) ps) 128
      (omega (arith, length-map ps (part_meant store), goal.map_length (λ n. (partition_at room store made n).partition) (partition_numbers room store made (fields_of room made 1)), few_parts))))
      (low_lists ps)

  pub rules_low : (faults.verdict room store made name).place ≤ 70000
  unfolding faults.verdict
  rules_low =
      let f = front_read room store made (fields_of room made 1) (lent_text name) in
      earlier_place (fronts.ruled store name f.board f.image) (layout_fault room store made f.board.chip) 70000 (omega (arith, low_front store name f.board f.image))
      (omega (arith, low_layouts f.board.chip))

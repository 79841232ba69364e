-- A refusal's place is an entry's number, so it is small.
use Rattle.std.specs.Prelude.{ℕ, zero, suc, ◌+◌, ◌-◌, ◌≤◌, List as Seq, [], ◌∷◌, eqb, ltb, length, Option, Some, None}
use Rattle.std.proofs.Common.{arith}
use Rattle.meaning.specs.declared.Limits.{Limits}
use Rattle.meaning.specs.Base.{ascii}
use Rattle.meaning.specs.Refusal.{R, ok, bad, Answer, accepted, refused, accepted_then, told}
use Rattle.meaning.specs.Fields.{each, listed}
use Rattle.laws.specs.Cases.{on}
use Rattle.tree.specs.declared.Fields.{Fields}
use Rattle.tree.specs.Room.{slot_at, under}
use Rattle.tree.specs.Order.{next}
use Rattle.tree.specs.Doors.{items, items_in}
use Rattle.schema.specs.declared.Text.{Text}
use Rattle.schema.specs.declared.Text.TheVariants as texts
use Rattle.parse.specs.declared.Refusal.{Refusal}
use Rattle.parse.specs.Refusals.{in_section, earlier}
use Rattle.parse.specs.Fields.{text_at}
use Rattle.parse.specs.Front.{sections, chosen_by, chosen, chip_of, table_at, board_read, image_read, front_of, front_read}
use Rattle.parse.specs.Entries.{refusal_of, partition_r, component_r, application_r, partitions, components, applications, walk, onward}
use Rattle.parse.specs.Refused.{partition_list, component_list, application_list, partitions_verdict, components_verdict, applications_verdict, verdict}

-- ---- entries

-- a refusal among entries is told at one of them
module _ {A X : Type 0} (read : A → R X) (section : ℕ) where
  kept_place : (a : Answer (Seq X)) (x : X) (b : ℕ) → (refusal_of a).place ≤ b → (refusal_of (accepted_then a (λ xs. accepted (x ∷ xs)))).place ≤ b
  kept_place (accepted xs) x b h = h
  kept_place (refused f s p) x b h = h

  each_place : (ns : Seq A) (i : ℕ) → (refusal_of (each read section i ns)).place ≤ i + length ns
  each_place [] i = omega arith
  each_place (a ∷ ns) i = go (each_place ns (i + 1)) (read a)
    where
      go : (refusal_of (each read section (i + 1) ns)).place ≤ i + 1 + length ns → (r : R X) → (refusal_of (accepted_then (told section i r) (λ x. accepted_then (each read section (i + 1) ns) (λ xs. accepted (x ∷ xs))))).place ≤ i + length (a ∷ ns)
      go h (ok x) = kept_place (each read section (i + 1) ns) x (i + length (a ∷ ns)) (omega (arith, h))
      go h (bad n) = omega arith

  pub listed_place : (ns : Seq A) (limit : ℕ) → (refusal_of (listed read section limit ns)).place ≤ limit + length ns
  unfolding listed
  listed_place ns limit = on (ltb limit (length ns)) (λ e. rw e (omega arith)) (λ e. rw e (omega (arith, each_place ns 0)))

pub earlier_place : (a b : Refusal) (n : ℕ) → a.place ≤ n → b.place ≤ n → (earlier a b).place ≤ n
earlier_place a b n h l = on (eqb a.number 0) (λ e. rw e l) (λ e. rw e h)

-- ---- as many entries as there are values

items_in_lem : (room : Seq ℕ) (place k i : ℕ) → length (items_in room place k i) ≤ k
items_in_lem room place zero i = omega arith
items_in_lem room place (suc k) i =
    on (under room i place) (λ e. rw e (omega (arith, items_in_lem room place k (i + 1)))) (λ e. rw e (omega (arith, items_in_lem room place k (i + 1))))

pub items_long : (room : Seq ℕ) (end place : ℕ) → length (items room end place 0) ≤ end
unfolding items
items_long room end place = omega (arith, items_in_lem room place (end - 0) 0)

pub walk_long : (room store : Seq ℕ) (end place k : ℕ) (after : Option ℕ) → length (walk room store end place k after) ≤ k
walk_long room store end place zero after = omega arith
walk_long room store end place (suc k) after = go (walk_long room store end place k) (next (slot_at room) store end place after)
  where
    go : ((f : Option ℕ) → length (walk room store end place k f) ≤ k) → (r : Option ℕ) → length (onward room store r (walk room store end place k)) ≤ suc k
    go h None = omega arith
    go h (Some n) = omega (arith, h (Some n))

-- ---- the board and the image are no entries

sections_place : (a b : ℕ) → (sections a b).place ≤ 0
sections_place a b = earlier_place (in_section 1 a) (in_section 2 b) 0 (omega arith) (omega arith)

second_place : (store : Seq ℕ) (t : Text) → (chosen_by store t).fault.place ≤ 0
second_place store texts.Absent = omega arith
second_place store (texts.Stored f n) = omega arith
second_place store texts.Lent = omega arith
second_place store (texts.Fixed w) = omega arith
second_place store (texts.WithAic f n) = omega arith

chosen_place : (store : Seq ℕ) (c p : Text) → (chosen store c p).fault.place ≤ 0
chosen_place store texts.Absent p = second_place store p
chosen_place store (texts.Stored f n) p = omega arith
chosen_place store texts.Lent p = second_place store p
chosen_place store (texts.Fixed w) p = second_place store p
chosen_place store (texts.WithAic f n) p = second_place store p

module _ (room store : Seq ℕ) where
  chip_place : (b i : Fields) → (chip_of room store b i).fault.place ≤ 0
  unfolding chip_of
  chip_place b i =
      let c = text_at room store b (ascii "chip") in
      let p = text_at room store i (ascii "platform") in
      earlier_place (sections c.fault p.fault) (chosen store c.text p.text).fault 0 (sections_place c.fault p.fault) (chosen_place store c.text p.text)

  pub front_place : (made : ℕ) (root : Fields) (lent : Text) → (front_read room store made root lent).fault.place ≤ 0
  unfolding front_of
  front_place made root lent =
      let b = table_at room store made root (ascii "board") in
      let i = table_at room store made root (ascii "image") in
      let c = chip_of room store b.fields i.fields in
      let d = board_read room store b.fields c.chip lent in
      let e = image_read room store i.fields c.chip in
      earlier_place (sections b.fault i.fault) (earlier c.fault (sections d.fault e.fault)) 0 (sections_place b.fault i.fault)
      (earlier_place c.fault (sections d.fault e.fault) 0 (chip_place b.fields i.fields) (sections_place d.fault e.fault))

  -- ---- all of it

  pub verdict_place : (made : ℕ) (root : Fields) (lim : Limits) (lent : Text) (n : ℕ)
      → lim.partitions + (partition_list room store made root).end ≤ n → lim.components + (component_list room store made root).end ≤ n → lim.applications + (lim.applications + 1) ≤ n
      → (verdict room store made root lim lent).place ≤ n
  unfolding verdict
  verdict_place made root lim lent n hp hc ha =
      let p = partition_list room store made root in
      let c = component_list room store made root in
      let k = application_list room store made root in
      earlier_place (front_read room store made root lent).fault (earlier (partitions_verdict room store made root lim) (earlier (components_verdict room store made root lim) (applications_verdict room store made root lim))) n
      (omega (arith, front_place made root lent))
      (earlier_place (partitions_verdict room store made root lim) (earlier (components_verdict room store made root lim) (applications_verdict room store made root lim)) n
      (earlier_place (in_section 3 p.fault) (refusal_of (partitions room store made p lim.partitions)) n (omega arith)
      (omega (arith, listed_place (partition_r room store made) 3 (items room p.end p.place 0) lim.partitions, items_long room p.end p.place)))
      (earlier_place (components_verdict room store made root lim) (applications_verdict room store made root lim) n
      (earlier_place (in_section 4 c.fault) (components room store made c lim.components lim.features) n (omega arith)
      (omega (arith, listed_place (component_r room store made lim.features) 4 (items room c.end c.place 0) lim.components, items_long room c.end c.place)))
      (earlier_place (in_section 5 k.fault) (applications room store made k lim.applications lim.features) n (omega arith)
      (omega (arith, listed_place (application_r room store made lim.features) 5 (walk room store k.end k.place (lim.applications + 1) None) lim.applications, walk_long room store k.end k.place (lim.applications + 1) None)))))

-- The stem of a plan: one law for each way on and out.
use Prim.Native.Nat.{ℕ, suc, ◌+◌, ◌-◌, ◌≤◌, ◌<◌}
use mathlib.Core.Bool.{Bool, true, false}
use mathlib.Core.List.{List as Seq, [], ◌∷◌, ◌++◌}
use mathlib.Core.Path.{◌≡◌, refl, sym, ap, ◌∙◌}
use native.Mathlib.Omega.{arith}
use borrow.Author.Tests.{eq-eqb, ne_eqb}
use lib.Dec.{eqb}
use lib.ListN.{length, take, get_or}
use lib.Seq.{take-length, take-suc, length-take-le}
use Rattle.meaning.specs.Base.{pick}
use Rattle.meaning.specs.Files.{last_dot}
use Rattle.tree.specs.declared.Span.{Span}
use Rattle.std.specs.Prelude.{Option, Some, None}
use Rattle.tree.specs.Steps.{KeyIs}
use Rattle.tree.specs.declared.Value.{Value}
use Rattle.tree.specs.declared.Fields.{Fields}
use Rattle.tree.specs.Room.{Finds}
use Rattle.tree.specs.Doors.{Rooms, Stood, value_at, fields_of}
use Rattle.tree.specs.Laws.{found_below}
use Rattle.laws.specs.Variants as variants
use denote.Enum.Bare.{sameb}
use Rattle.schema.specs.contracts.Kind.{the_type}
use Rattle.schema.specs.contracts.Text as text
use Rattle.schema.specs.declared.Kind.{Kind}
use Rattle.schema.specs.declared.Kind.TheVariants as kinds
use Rattle.parse.specs.declared.field.KindRead.{KindRead}
use Rattle.schema.specs.declared.Text.{Text}
use Rattle.schema.specs.declared.Text.TheVariants as texts
use Rattle.schema.specs.Texts.{clip, or_text, is_given}
use Rattle.parse.specs.declared.front.TableRead.{TableRead}
use Rattle.parse.specs.declared.front.Front.{Front}
use Rattle.parse.specs.declared.component.Sources.{Sources}
use Rattle.parse.specs.Fields.{kind_at}
use Rattle.parse.specs.Component.{name_in, sources, component_read, head_read}
use Rattle.parse.specs.Entries.{entry_table, component_at}
use Rattle.parse.specs.Front.{front_read}
use Rattle.parse.specs.Refused.{lent_text}
use Rattle.plan.specs.declared.choice.Choice.{Choice}
use Rattle.plan.specs.declared.choice.Choice.TheVariants as choices
use Rattle.plan.specs.Choices.{Standing}
use Rattle.plan.specs.Planned.{placed}
use Rattle.plan.specs.Stems.{Dotted, stopped, shortened, stem_of, own_stem, is_app, key_of, leads, leader, leading, boot_stem, stem}

-- ---- the last dot

dot_last : (d i b : ℕ) (s : Seq ℕ) → last_dot d i (s ++ (b ∷ [])) ≡ pick (eqb b 46) (i + length s) (last_dot d i s)
dot_last d i b [] = let z : i + 0 ≡ i = omega arith in rw z
dot_last d i b (x ∷ s) = let z : i + suc (length s) ≡ i + 1 + length s = omega arith in rw z (dot_last (pick (eqb x 46) i d) (i + 1) b s)

-- no dot stands after the first i bytes
pub record Backward (s : Seq ℕ) (i : ℕ) : Type 0 where
  pub high : i ≤ length s
  pub left : last_dot 0 0 s ≡ last_dot 0 0 (take i s)

pub dot_start : (s : Seq ℕ) → Backward s (length s)
dot_start s = record { high = omega arith; left = rw (take-length s) }

module _ (s : Seq ℕ) (i : ℕ) (k : Backward s i) where
  pub dot_none : i ≤ 0 → Dotted s 0
  dot_none l = let z : i ≡ 0 = omega arith in record { is = sym (rw z at k.left); inside = omega arith }

  module _ (l : 0 < i) where
    dot_step : last_dot 0 0 s ≡ pick (eqb (get_or s (i - 1) 0) 46) (i - 1) (last_dot 0 0 (take (i - 1) s))
    dot_step =
        let d : i ≡ suc (i - 1) = omega arith in
        let e : take (suc (i - 1)) s ≡ take (i - 1) s ++ (get_or s (i - 1) 0 ∷ []) = take-suc s (i - 1) 0 (omega (arith, k.high)) in
        let n : length (take (i - 1) s) ≡ i - 1 = length-take-le (i - 1) s (omega (arith, k.high)) in
        let z : 0 + length (take (i - 1) s) ≡ i - 1 = omega (arith, n) in
        k.left ∙ ap (λ (j : ℕ). last_dot 0 0 (take j s)) d ∙ ap (last_dot 0 0) e ∙ rw z at (dot_last 0 0 (get_or s (i - 1) 0) (take (i - 1) s))

    pub dot_hit : get_or s (i - 1) 0 ≡ 46 → Dotted s (i - 1)
    dot_hit e = record { is = sym (rw (eq-eqb (get_or s (i - 1) 0) 46 e) at dot_step); inside = omega (arith, k.high) }

    pub dot_on : (get_or s (i - 1) 0 ≡ 46 → ⊥) → Backward s (i - 1)
    dot_on e = record { high = omega (arith, k.high); left = rw (ne_eqb (get_or s (i - 1) 0) 46 e) at dot_step }

-- ---- a file's stem

module _ (s : Seq ℕ) (n : ℕ) (k : Dotted s n) where
  pub stem_whole : n ≡ 0 → length s ≡ stopped s
  unfolding stopped
  stem_whole z = rw (← k.is, eq-eqb n 0 z)

  pub stem_short : (n ≡ 0 → ⊥) → n ≡ stopped s
  unfolding stopped
  stem_short z = rw (← k.is, ne_eqb n 0 z)

module _ (store : Seq ℕ) (file t : Text) (e : t ≡ name_in store file) where
  pub stem_stored : (from len : ℕ) (s : Seq ℕ) (n : ℕ) → t ≡ texts.Stored from len → s ≡ clip from len store → n ≡ stopped s → texts.Stored from n ≡ stem_of store file
  stem_stored from len s n g es en = rw (← e, g, ← es) (ap (texts.Stored from) en)

  -- all but a string of the store
  pub stem_none : variants.Left text.enum (0 ∷ 2 ∷ 3 ∷ 4 ∷ []) t → texts.Absent ≡ stem_of store file
  stem_none o = rw (← e) (variants.others text.enum (λ u. texts.Absent ≡ shortened store u) (0 ∷ 2 ∷ 3 ∷ 4 ∷ []) (λ _. refl) (λ _. refl) (λ _. refl) (λ _. refl) t o)

-- the other only where the first is absent
or_given : (t d : Text) → or_text t d ≡ pick (is_given t) t d
or_given texts.Absent d = refl
or_given (texts.Stored from len) d = refl
or_given texts.Lent d = refl
or_given (texts.Fixed w) d = refl
or_given (texts.WithAic from len) d = refl

-- ---- the first `app` component with a partition

app_same : (k : Kind) → sameb the_type k kinds.App ≡ is_app k
app_same kinds.App = refl
app_same kinds.Pbp = refl
app_same kinds.Raw = refl

module _ (room store : Seq ℕ) (made : ℕ) where
  module _ (n : ℕ) (b : Bool) (e : b ≡ placed room store made n) where
    pub lead_not : b ≡ false → false ≡ leads room store made n
    unfolding leads
    lead_not f = rw (← e, f)

    pub lead_is : b ≡ true → (v : Value) (t : TableRead) (k : KindRead) (r : Bool) → v ≡ value_at room store n → t ≡ entry_table room made v → k ≡ kind_at room store t.fields
        → r ≡ sameb the_type k.kind kinds.App → r ≡ leads room store made n
    unfolding leads component_at component_read head_read
    lead_is f v t k r e1 e2 e3 e4 = e4 ∙ app_same k.kind ∙ rw (← e, f, e3, e2, e1)

  module _ (found : Option ℕ) (h : Finds 0 made (leader room store made) found) where
    pub leading_none : found ≡ None → texts.Absent ≡ leading room store made
    leading_none g = rw (← h.is, g)

    module _ (n : ℕ) (g : found ≡ Some n) where
      pub leader_stood : Rooms room made → Stood room n
      leader_stood r =
          let b : n < made = found_below found made n h.below g in
          record { fits = record { fits = omega (arith, r.fits.fits) }; low = omega (arith, r.low) }

      pub leading_is : (v : Value) (t : TableRead) (s : Sources) (stem last r : Text) → v ≡ value_at room store n → t ≡ entry_table room made v → s ≡ sources room store t.fields
          → stem ≡ stem_of store s.file → last ≡ or_text s.bin stem → r ≡ or_text s.«package» last → r ≡ leading room store made
      unfolding own_stem component_at component_read head_read
      leading_is v t s stem last r e1 e2 e3 e4 e5 e6 = rw (← h.is, g, e6, e5, e4, e3, e2, e1)

  -- ---- of a plan

  module _ (name : Seq ℕ) (t : Text) (b : Bool) (e : t ≡ leading room store made) (k : b ≡ is_given t) where
    boot_stem_or : boot_stem room store made name ≡ pick b t (front_read room store made (fields_of room made 1) (lent_text name)).board.name
    unfolding boot_stem
    boot_stem_or = rw (← e, k) (or_given t _)

    pub boot_stem_led : b ≡ true → t ≡ boot_stem room store made name
    boot_stem_led y = sym (rw y at boot_stem_or)

    pub boot_stem_board : b ≡ false → (root : Fields) (lent : Text) (f : Front) → root ≡ fields_of room made 1 → lent ≡ lent_text name → f ≡ front_read room store made root lent
        → f.board.name ≡ boot_stem room store made name
    boot_stem_board y root lent f e1 e2 e3 = rw (e3, e2, e1) (sym (rw y at boot_stem_or))

  pub stem_is : (name : Seq ℕ) (c u : Choice) (r : Text) → c ≡ u → r ≡ stem room store made name u → r ≡ stem room store made name c
  stem_is name c u r e q = rw e q

pub key_text : (room : Seq ℕ) (n : ℕ) (v : Span) → KeyIs room n v → texts.Stored v.from v.len ≡ key_of room n
key_text room n v h = rw h.is

pub standing_stood : (room : Seq ℕ) (c : Choice) (place n : ℕ) → Standing room c → c ≡ choices.At place n → Stood room n
standing_stood room c place n h e = rw e at h

-- The stem says what 01 says: of the boot chain, and of an application.
use Rattle.std.specs.Prelude.{ℕ, ◌+◌, ◌-◌, ◌≤◌, Bool, true, false, ◌≡◌, eqb, leb, length, take, drop, Option as Maybe, Some, None}
use Rattle.features.specs.declared.Piece.{Piece}
use mathlib.Core.List.{List as Seq, [], ◌∷◌, ◌++◌, map}
use Rattle.std.proofs.Math.Option.{Option, none, some}
use Rattle.std.proofs.Math.Path.{refl, ap}
use Rattle.std.proofs.Common.{sym, ◌∙◌, arith, leb-true, le-leb, length-take, length-drop, take-append-drop, drop-drop}
use Rattle.std.proofs.Math.Seq.{take-length}
use Rattle.std.proofs.lemmas.List.{take-append-le, drop-append-le}
use Rattle.meaning.specs.Base.{pick, nil?, ascii, first_given, part}
use Rattle.meaning.specs.Limits.{of01}
use Rattle.meaning.specs.Files as files
use Rattle.meaning.specs.Schema as schemas
use Rattle.meaning.specs.Plan as meant
use Rattle.laws.specs.Cases.{on}
use Rattle.laws.specs.Order.{same_eq}
use Rattle.tree.specs.Doors.{field, fields_of}
use Rattle.schema.specs.declared.Text.{Text}
use Rattle.schema.specs.declared.Text.TheVariants as texts
use Rattle.schema.specs.declared.Kind.{Kind}
use Rattle.schema.specs.declared.Kind.TheVariants as kinds
use Rattle.schema.specs.declared.Component.{Component}
use Rattle.schema.specs.Words.{kind_meant}
use Rattle.schema.specs.Texts.{clip, spelled, optional, or_text}
use Rattle.parse.specs.File.{piece_of, Inside, file_at}
use Rattle.parse.specs.Filed.{file_inside, file_named}
use Rattle.parse.specs.Component as parsed
use Rattle.parse.specs.Component.{piece_in}
use Rattle.parse.specs.Entries.{table_at, component_at}
use Rattle.parse.specs.Front.{front_read}
use Rattle.parse.specs.Meant.{component_meant}
use Rattle.parse.specs.Reads.{Kept, text_kept, else_spelled}
use Rattle.parse.specs.Refused.{lent_text}
use Rattle.parse.specs.Whole.{preset_meant, component_of}
use Rattle.validate.specs.Gathered.{components, applications}
use Rattle.plan.specs.declared.choice.Choice.TheVariants as choices
use Rattle.plan.specs.Choices.{keyed, declared_in, choice}
use Rattle.plan.specs.ChoiceSaid.{selection}
use Rattle.plan.specs.PlannedSaid.{placed_means}
use Rattle.plan.specs.Stems.{stopped, shortened, stem_of, own_stem, is_app, first_with, key_of, leads, leader, stem_found, leading, boot_stem, stem}

-- ---- pieces of the store

part_in : (s u : Seq ℕ) (at len : ℕ) → at + len ≤ length s → take len (drop at (s ++ u)) ≡ take len (drop at s)
part_in s u at len h =
    let k : len ≤ length (drop at s) = omega (arith, length-drop at s) in
    let a : at ≤ length s = omega arith in
    rw drop-append-le (take-append-le len (drop at s) u k)

-- a piece of a piece of the store
clip_in : (store : Seq ℕ) (from n at len : ℕ) → at + len ≤ length (clip from n store) → clip (from + at) len store ≡ part at (at + len) (clip from n store)
unfolding clip
clip_in store from n at len h =
    on (leb (from + n) (length store))
    (λ e.
    let d : from + n ≤ length store = leb-true (from + n) (length store) e in
    let i : at + len ≤ length (take (from + n - from) (drop from store)) = rw e at h in
    let l : from + at + len ≤ length store = omega (arith, length-take (from + n - from) (drop from store), length-drop from store) in
    let c : from + at + len - (from + at) ≡ len = omega arith in
    let b : at + len - at ≡ len = omega arith in
    rw (e, le-leb (from + at + len) (length store) l, c, b, ← drop-drop at from store)
    (ap (λ (s : Seq ℕ). take len (drop at s)) (sym (take-append-drop (from + n - from) (drop from store)))
    ∙ part_in (take (from + n - from) (drop from store)) (drop (from + n - from) (drop from store)) at len i))
    (λ e.
    let i : at + len ≤ 0 = rw e at h in
    let a : at ≡ 0 = omega arith in
    let l : len ≡ 0 = omega arith in
    rw (e, a, l) (on (leb (from + 0 + 0) (length store)) (λ f. let z : from + 0 + 0 - (from + 0) ≡ 0 = omega arith in rw (f, z)) (λ f. rw f)))

-- its first bytes
clip_front : (store : Seq ℕ) (from n k : ℕ) → k ≤ length (clip from n store) → clip from k store ≡ take k (clip from n store)
clip_front store from n k h =
    let a : from + 0 ≡ from = omega arith in
    let b : 0 + k - 0 ≡ k = omega arith in
    rw (a, b) at (clip_in store from n 0 k (omega (arith, h)))

-- ---- a file's stem

dot_high : (d i : ℕ) (s : Seq ℕ) → d ≤ i → files.last_dot d i s ≤ i + length s
dot_high d i [] h = omega arith
dot_high d i (b ∷ s) h =
    on (eqb b 46)
    (λ e. rw e (omega (arith, dot_high i (i + 1) s (omega arith))))
    (λ e. rw e (omega (arith, dot_high d (i + 1) s (omega arith))))

pub stopped_high : (s : Seq ℕ) → stopped s ≤ length s
unfolding stopped
stopped_high s = on (eqb (files.last_dot 0 0 s) 0) (λ e. rw e (omega arith)) (λ e. rw e (omega (arith, dot_high 0 0 s (omega arith))))

pub stopped_is : (s : Seq ℕ) → take (stopped s) s ≡ files.stem_of s
unfolding stopped files.stem_of
stopped_is s = on (eqb (files.last_dot 0 0 s) 0) (λ e. rw e (take-length s)) (λ e. rw e)

module _ (store name : Seq ℕ) where
  piece_in_lem : (from n : ℕ) (p : Maybe Piece) → Inside (clip from n store) p → optional store name (piece_in from p) ≡ piece_of (clip from n store) p
  piece_in_lem from n None h = refl
  piece_in_lem from n (Some p) h = ap some (clip_in store from n p.from p.len h)

  -- the stem of a name
  shortened_means : (t : Text) → Kept t → optional store name (shortened store t) ≡ files.stemmed (optional store name t)
  shortened_means texts.Absent h = refl
  shortened_means (texts.Stored from len) h =
      ap some (clip_front store from len (stopped (clip from len store)) (stopped_high (clip from len store)) ∙ stopped_is (clip from len store))
  shortened_means texts.Lent h = absurd h
  shortened_means (texts.Fixed w) h = absurd h
  shortened_means (texts.WithAic from len) h = absurd h

  piece_kept : (from : ℕ) (p : Maybe Piece) → Kept (piece_in from p)
  piece_kept from None = tt
  piece_kept from (Some p) = tt

  -- a file's stem is 01's
  pub stem_of_means : (file : Text) → Kept file → optional store name (stem_of store file) ≡ meant.stem_of_file (optional store name file)
  unfolding files.file_stem
  stem_of_means texts.Absent h = refl
  stem_of_means (texts.Stored from len) h =
      let s = clip from len store in
      shortened_means (piece_in from (file_at s)) (piece_kept from (file_at s)) ∙ ap files.stemmed (piece_in_lem from len (file_at s) (file_inside s) ∙ file_named s)
  stem_of_means texts.Lent h = absurd h
  stem_of_means (texts.Fixed w) h = absurd h
  stem_of_means (texts.WithAic from len) h = absurd h

  or_means : (t d : Text) → optional store name (or_text t d) ≡ first_given (optional store name t) (optional store name d)
  or_means texts.Absent d = refl
  or_means (texts.Stored from len) d = refl
  or_means texts.Lent d = refl
  or_means (texts.Fixed w) d = refl
  or_means (texts.WithAic from len) d = refl

-- ---- of the boot chain

app_is : (k : Kind) → meant.app? (kind_meant k) ≡ is_app k
app_is kinds.App = refl
app_is kinds.Pbp = refl
app_is kinds.Raw = refl

leads_by : (b k : Bool) → pick (pick b false true) k false ≡ pick b false k
leads_by true k = refl
leads_by false k = refl

module _ (room store : Seq ℕ) (made : ℕ) (name : Seq ℕ) where
  -- a component's own stem is 01's
  pub own_stem_means : (c : Component) → Kept c.head.file
      → optional store name (own_stem store c) ≡ meant.own_stem (some (component_meant room store made name c))
  unfolding own_stem
  own_stem_means c h =
      rw (
        or_means store name c.head.«package» (or_text c.head.bin (stem_of store c.head.file)),
        or_means store name c.head.bin (stem_of store c.head.file),
        stem_of_means store name c.head.file h,
      )

  file_kept : (n : ℕ) → Kept (component_at room store made n 32).component.head.file
  unfolding component_at parsed.component_read parsed.head_read parsed.sources
  file_kept n = text_kept (field room store (table_at room store made n).fields (ascii "file"))

  -- the component that was found
  abbrev component_found : Maybe ℕ → Option schemas.Component
  component_found None = none
  component_found (Some n) = some (component_of room store made name 32 n)

  leads_is : (n : ℕ) → leads room store made n
      ≡ pick (nil? (component_of room store made name 32 n).role.partition) false (meant.app? (component_of room store made name 32 n).head.kind)
  unfolding leads
  leads_is n =
      let c = (component_at room store made n 32).component in
      rw (placed_means room store made n name, app_is c.head.kind)
      (leads_by (nil? (spelled store name c.role.partition)) (is_app c.head.kind))

  first_means : (ns : Seq ℕ) → meant.first_app (map (component_of room store made name 32) ns) ≡ component_found (first_with (leads room store made) ns)
  first_means [] = refl
  first_means (n ∷ ns) =
      rw (← leads_is n)
      (on (leads room store made n) (λ e. rw e) (λ e. rw e (first_means ns)))

  found_means : (f : Maybe ℕ) → optional store name (stem_found room store made f) ≡ meant.own_stem (component_found f)
  found_means None = refl
  found_means (Some n) = own_stem_means (component_at room store made n 32).component (file_kept n)

  abbrev preset : schemas.Preset
  preset = preset_meant room store made name (fields_of room made 1) of01 (lent_text name)

  -- the boot chain's stem is 01's
  pub boot_stem_means : spelled store name (boot_stem room store made name) ≡ meant.stem_for preset meant.boot_chain
  unfolding boot_stem meant.stem_for
  boot_stem_means =
      rw (
        else_spelled store name (leading room store made) (front_read room store made (fields_of room made 1) (lent_text name)).board.name,
        found_means (leader room store made),
        first_means (components room store made),
      )

  -- ---- of an application

  declared_stem : (key : Seq ℕ) (i : ℕ) (ns : Seq ℕ) → (declared_in room store key i ns ≡ choices.Undeclared → ⊥)
      → spelled store name (stem room store made name (declared_in room store key i ns)) ≡ key
  unfolding keyed
  declared_stem key i [] h = absurd (h refl)
  declared_stem key i (m ∷ ns) h =
      on (keyed room store key m)
      (λ t. rw t (sym (same_eq key (spelled store name (key_of room m)) t)))
      (λ t. rw t (declared_stem key (i + 1) ns (λ e. h (rw t e))))

  -- the key of the application that was chosen is the one that was asked for
  pub key_stem_means : (app : ℕ) (key : Seq ℕ) (place n : ℕ) → choice room store made app key ≡ choices.At place n → spelled store name (key_of room n) ≡ key
  key_stem_means app key place n e =
      on (eqb app 0)
      (λ t. let f : choices.BootChain ≡ choices.At place n = rw t at e in let z : ◌≡◌ {A = ℕ} 0 1 = cc in absurd (omega arith))
      (λ t.
      let f : declared_in room store key 0 (applications room store made) ≡ choices.At place n = rw t at e in
      rw f at
      (declared_stem key 0 (applications room store made)
      (λ u. let g : choices.At place n ≡ choices.Undeclared = sym f ∙ u in let z : ◌≡◌ {A = ℕ} 0 1 = cc in absurd (omega arith))))

  -- a plan's stem is 01's
  pub stem_means : (app : ℕ) (key : Seq ℕ) → (choice room store made app key ≡ choices.Undeclared → ⊥)
      → spelled store name (stem room store made name (choice room store made app key)) ≡ meant.stem_for preset (selection app key)
  unfolding meant.stem_for
  stem_means app key h =
      on (eqb app 0)
      (λ t. rw t boot_stem_means)
      (λ t. rw t (declared_stem key 0 (applications room store made) (λ e. h (rw t e))))

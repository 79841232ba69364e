-- What the views hand out has all that a record always has: its texts are given, and its feature lists are handed out whole.
use Prim.Native.Nat.{ℕ, zero, suc, ◌-◌, ◌<◌}
use mathlib.Core.Bool.{true, false}
use mathlib.Core.List.{List, [], ◌∷◌, ◌++◌}
use mathlib.Core.Path.{◌≡◌, refl}
use native.Mathlib.Omega.{arith}
use borrow.Author.Tests.{eqb-true, eqb-false, ltb-true}
use lib.Dec.{eqb, ltb}
use lib.ListN.{length, take, get_or}
use Rattle.meaning.specs.Base.{ascii}
use Rattle.meaning.specs.Utf8.{valid}
use Rattle.laws.specs.Cases.{on, picked, never}
use Rattle.std.specs.Prelude.{Option, Some, None}
use Rattle.tree.specs.declared.Value.{Value}
use Rattle.tree.specs.declared.Value.TheVariants as values
use Rattle.tree.specs.declared.Fields.{Fields}
use Rattle.tree.specs.Room.{slot_at}
use Rattle.tree.specs.Doors.{field, fields_of, items, nth_of}
use Rattle.schema.specs.declared.Text.{Text}
use Rattle.schema.specs.declared.Text.TheVariants as texts
use Rattle.schema.specs.declared.Word.TheVariants as words
use Rattle.schema.specs.declared.Board.{Board}
use Rattle.schema.specs.declared.Image.{Image}
use Rattle.schema.specs.declared.Component.{Component}
use Rattle.schema.specs.declared.Application.{Application}
use Rattle.schema.specs.Words.{chip_word, target_word}
use Rattle.schema.specs.Texts.{spelled, is_given, or_text, aic_of}
use Rattle.parse.specs.Fields.{first_fault, text_read, text_at, text_needed, kind_at, missing}
use Rattle.parse.specs.Reads.{Kept, text_kept}
use Rattle.parse.specs.Meant.{image_meant}
use Rattle.parse.specs.Front as front
use Rattle.parse.specs.Front.{front_read}
use Rattle.parse.specs.Refused.{lent_text}
use Rattle.parse.specs.Component as component
use Rattle.parse.specs.Application as application
use Rattle.parse.specs.Entries.{table_at, component_at, application_at}
use Rattle.parse.specs.Views as views
use Rattle.parse.specs.Views.{holds_values}
use Rattle.plan.specs.declared.choice.Choice.{Choice}
use Rattle.plan.specs.declared.choice.Choice.TheVariants as choices
use Rattle.plan.specs.declared.component.Build.{Build}
use Rattle.plan.specs.declared.component.Source.{Source}
use Rattle.plan.specs.declared.component.Source.TheVariants as sources
use Rattle.plan.specs.declared.component.Planned.{Planned}
use Rattle.plan.specs.Planned as plans
use Rattle.plan.specs.Builds as needed
use Rattle.plan.specs.Stems as stems
use Rattle.theorems.proofs.Decoding.{Given, Low}
use Rattle.theorems.proofs.Places.{LowIn, component_low, application_low}

-- ---- texts

or_given : (t d : Text) → Given d → Given (or_text t d)
or_given texts.Absent d h = h
or_given (texts.Stored from len) d h = refl
or_given texts.Lent d h = refl
or_given (texts.Fixed w) d h = refl
or_given (texts.WithAic from len) d h = refl

-- a file's name made of a stored text
aic_given : (t : Text) (from len : ℕ) → Kept t → Given (aic_of (or_text t (texts.Stored from len)))
aic_given texts.Absent from len h = refl
aic_given (texts.Stored at long) from len h = refl
aic_given texts.Lent from len h = absurd h
aic_given (texts.Fixed w) from len h = absurd h
aic_given (texts.WithAic at long) from len h = absurd h

pub lent_given : (name : List ℕ) → Given (lent_text name)
unfolding lent_text
lent_given name = picked Given (valid name) (λ e. refl) (λ e. refl)

-- it is not the lent name, so no lent name changes its bytes
abbrev Unlent : Text → Type 0
Unlent texts.Absent = Unit {0}
Unlent (texts.Stored from len) = Unit {0}
Unlent texts.Lent = ⊥
Unlent (texts.Fixed w) = Unit {0}
Unlent (texts.WithAic from len) = Unit {0}

or_unlent : (t d : Text) → Kept t → Unlent d → Unlent (or_text t d)
or_unlent texts.Absent d h k = k
or_unlent (texts.Stored from len) d h k = tt
or_unlent texts.Lent d h k = absurd h
or_unlent (texts.Fixed w) d h k = absurd h
or_unlent (texts.WithAic from len) d h k = absurd h

spelled_same : (store name other : List ℕ) (t : Text) → Unlent t → spelled store other t ≡ spelled store name t
spelled_same store name other texts.Absent h = refl
spelled_same store name other (texts.Stored from len) h = refl
spelled_same store name other texts.Lent h = absurd h
spelled_same store name other (texts.Fixed w) h = refl
spelled_same store name other (texts.WithAic from len) h = refl

-- two faults are none where the first of them is
both_none : (n m : ℕ) → first_fault n m ≡ 0 → (n ≡ 0) × (m ≡ 0)
both_none n m e =
    on (eqb n 0)
    (λ f. (eqb-true n 0 f, rw f at e))
    (λ f. let z : n ≡ 0 = rw f at e in absurd (eqb-false n 0 f z))

-- a needed text without a fault
needed_given : (v : Value) → first_fault (text_read v).fault (missing v) ≡ 0 → Given (text_read v).text
needed_given values.Absent e = absurd (omega (arith, e))
needed_given (values.Text from len) e = refl
needed_given (values.Number b n) e = absurd (omega (arith, e))
needed_given (values.Flag b) e = absurd (omega (arith, e))
needed_given (values.Array place) e = absurd (omega (arith, e))
needed_given (values.Table place) e = absurd (omega (arith, e))

-- ---- the board and the image

pub record BoardWhole (b : Board) : Type 0 where
  pub name : Given b.name
  pub target : Given b.target
  pub profile : Given b.profile

pub record ImageWhole (i : Image) : Type 0 where
  pub platform : Given i.platform
  pub product : Given i.product
  pub version : Given i.version
  pub media_id_lem : Given i.media_id
  pub app : Given i.app

module _ (room store : List ℕ) (made : ℕ) (root : Fields) (lent : Text) where
  abbrev board_fields : Fields
  board_fields = (front.table_at room store made root (ascii "board")).fields

  abbrev image_fields : Fields
  image_fields = (front.table_at room store made root (ascii "image")).fields

  pub board_whole : Given lent → BoardWhole (front_read room store made root lent).board
  unfolding front.front_of front.board_read
  board_whole h =
      let at : List ℕ → Text = λ key. (text_at room store board_fields key).text in
      record {
        name = or_given (at (ascii "name")) lent h;
        target = or_given (at (ascii "target")) (texts.Fixed (target_word (front.chip_of room store board_fields image_fields).chip)) refl;
        profile = or_given (at (ascii "profile")) (texts.Fixed words.Release) refl;
      }

  pub image_whole : ImageWhole (front_read room store made root lent).image
  unfolding front.front_of front.image_read front.image_names front.image_rest
  image_whole =
      let at : List ℕ → Text = λ key. (text_at room store image_fields key).text in
      record {
        platform = or_given (at (ascii "platform")) (texts.Fixed (chip_word (front.chip_of room store board_fields image_fields).chip)) refl;
        product = or_given (at (ascii "product")) (texts.Fixed words.Unknown) refl;
        version = or_given (at (ascii "version")) (texts.Fixed words.Version) refl;
        media_id_lem = or_given (at (ascii "media_id")) (texts.Stored 0 0) refl;
        app = or_given (at (ascii "app")) (texts.Stored 0 0) refl;
      }

  -- no lent name changes the image
  pub image_unlent : (name other : List ℕ) → image_meant room store made other (front_read room store made root lent).image ≡ image_meant room store made name (front_read room store made root lent).image
  unfolding front.front_of front.image_read front.image_names front.image_rest
  image_unlent name other =
      let same : (key : List ℕ) (d : Text) → Unlent d → spelled store other (or_text (text_at room store image_fields key).text d) ≡ spelled store name (or_text (text_at room store image_fields key).text d) =
      λ key d k. spelled_same store name other (or_text (text_at room store image_fields key).text d) (or_unlent (text_at room store image_fields key).text d (text_kept (field room store image_fields key)) k) in
      rw (
        same (ascii "platform") (texts.Fixed (chip_word (front.chip_of room store board_fields image_fields).chip)) tt,
        same (ascii "product") (texts.Fixed words.Unknown) tt,
        same (ascii "version") (texts.Fixed words.Version) tt,
        same (ascii "media_id") (texts.Stored 0 0) tt,
        same (ascii "app") (texts.Stored 0 0) tt,
      )

-- ---- entries

pub record ComponentWhole (c : Component) : Type 0 where
  pub name : Given c.head.name
  pub filename : Given c.head.filename
  pub partition : Given c.role.partition
  pub attr : Given c.role.attr
  pub lists : LowIn c

pub record ApplicationWhole (a : Application) : Type 0 where
  pub pack : Given a.«package»
  pub name : Given a.name
  pub partition : Given a.partition
  pub filename : Given a.filename
  pub attr : Given a.attr
  pub list : Low a.features

abbrev pub WholeComponent : Option Component → Type 0
WholeComponent None = Unit {0}
WholeComponent (Some c) = ComponentWhole c

abbrev pub WholeApplication : Option Application → Type 0
WholeApplication None = Unit {0}
WholeApplication (Some a) = ApplicationWhole a

-- a component without a fault has a name
head_named : (room store : List ℕ) (f : Fields) → (component.head_read room store f).fault ≡ 0 → Given (component.head_read room store f).head.name
unfolding component.head_read
head_named room store f e =
    let name : ℕ = (text_needed room store f (ascii "name")).fault in
    let others : ℕ = first_fault (component.sources room store f).fault (text_at room store f (ascii "filename")).fault in
    let a = both_none (kind_at room store f).fault (first_fault name others) e in
    needed_given (field room store f (ascii "name")) (both_none name others a.1).0

module _ (room store : List ℕ) (made : ℕ) (held : holds_values room made ≡ true) where
  name_given : (n limit : ℕ) → (component_at room store made n limit).fault ≡ 0 → Given (component_at room store made n limit).component.head.name
  unfolding component_at component.component_read
  name_given n limit e =
      let t = table_at room store made n in
      let c = component.component_read room store made t.fields limit in
      let h = component.head_read room store t.fields in
      let a = both_none t.fault c.fault e in
      let b = both_none h.fault
      (first_fault (component.role_read room store made t.fields limit).fault
      (first_fault (component.boot_read room store t.fields).fault (component.load_read room store t.fields).fault)) a.1 in
      head_named room store t.fields b.0

  component_whole : (n limit : ℕ) → (component_at room store made n limit).fault ≡ 0 → ComponentWhole (component_at room store made n limit).component
  unfolding component_at component.component_read component.head_read component.role_read component.filename_for
  component_whole n limit e =
      let at : List ℕ → Text = λ key. (text_at room store (table_at room store made n).fields key).text in
      let from = component.sources room store (table_at room store made n).fields in
      record {
        name = name_given n limit e;
        filename =
            or_given (at (ascii "filename")) _
            (or_given from.bin _ (or_given (component.name_in store from.file) _ (or_given from.«package» (texts.Fixed words.Component) refl)));
        partition = or_given (at (ascii "partition")) (texts.Stored 0 0) refl;
        attr = or_given (at (ascii "attr")) (texts.Fixed words.Required) refl;
        lists = component_low room store made held n limit;
      }

  application_whole : (n limit : ℕ) → ApplicationWhole (application_at room store made n limit).application
  unfolding application_at application.application_read application.names
  application_whole n limit =
      let f = (table_at room store made n).fields in
      let at : List ℕ → Text = λ key. (text_at room store f key).text in
      let v = slot_at room n in
      record {
        pack = refl;
        name = or_given (at (ascii "name")) (texts.Stored v.key v.len) refl;
        partition = or_given (at (ascii "partition")) (texts.Fixed words.App) refl;
        filename = or_given (at (ascii "filename")) _ (aic_given (at (ascii "name")) v.key v.len (text_kept (field room store f (ascii "name"))));
        attr = or_given (at (ascii "attr")) (texts.Fixed words.Optional) refl;
        list = application_low room store made held n limit;
      }

  -- by number
  pub component_found_lem : (limit : ℕ) (r : Option ℕ) → WholeComponent (views.component_of room store made limit r)
  unfolding views.good_component
  component_found_lem limit (Some n) =
      let fault : ℕ = (component_at room store made n limit).fault in
      picked WholeComponent (eqb fault 0) (λ e. component_whole n limit (eqb-true fault 0 e)) (λ e. tt)
  component_found_lem limit None = tt

  pub application_found : (limit : ℕ) (r : Option ℕ) → WholeApplication (views.application_of room store made limit r)
  unfolding views.good_application
  application_found limit (Some n) = picked WholeApplication (eqb (application_at room store made n limit).fault 0) (λ e. application_whole n limit) (λ e. tt)
  application_found limit None = tt

-- ---- a plan

pub record BuildWhole (b : Build) : Type 0 where
  pub pack : Given b.«package»
  pub bin : Given b.bin
  pub list : Low b.features

abbrev pub WholeSource : Option Source → Type 0
WholeSource None = Unit {0}
WholeSource (Some (sources.Package b)) = BuildWhole b
WholeSource (Some (sources.File t)) = Given t

abbrev pub WholeBuild : Option Build → Type 0
WholeBuild None = Unit {0}
WholeBuild (Some b) = BuildWhole b

-- each of them
abbrev Each : {X : Type 0} → (X → Type 0) → List X → Type 0
Each P [] = Unit {0}
Each P (x ∷ xs) = P x × Each P xs

each_joined : {X : Type 0} (P : X → Type 0) (xs ys : List X) → Each P xs → Each P ys → Each P (xs ++ ys)
each_joined P [] ys h k = k
each_joined P (x ∷ xs) ys h k = (h.0, each_joined P xs ys h.1 k)

each_at : {X : Type 0} (P : X → Type 0) (xs : List X) (i : ℕ) (d : X) → i < length xs → Each P xs → P (get_or xs i d)
each_at P [] i d l h = absurd (omega arith)
each_at P (x ∷ xs) zero d l h = h.0
each_at P (x ∷ xs) (suc i) d l h = each_at P xs i d (omega (arith, l)) h.1

-- a use whose package may be absent; its bin is there where the package is
record UseWhole (b : Build) : Type 0 where
  bin : Given b.«package» → Given b.bin
  list : Low b.features

built_use : (p bin : Text) (fs : _) → Low fs → UseWhole (plans.built p bin fs)
built_use p bin fs h = record { bin = λ g. or_given bin p g; list = h }

fresh_given : (store : List ℕ) (earlier : List Build) (b : Build) → needed.fresh store earlier b ≡ true → Given b.«package»
unfolding needed.fresh
fresh_given store earlier b e = on (is_given b.«package») (λ f. f) (λ f. never {b = false} (rw f at e) refl)

first_whole : (store : List ℕ) (earlier bs : List Build) → Each UseWhole bs → Each BuildWhole (needed.first_uses store earlier bs)
first_whole store earlier [] h = tt
first_whole store earlier (b ∷ bs) h =
    let more = first_whole store (earlier ++ (b ∷ [])) bs h.1 in
    picked (Each BuildWhole) (needed.fresh store earlier b)
    (λ e. let g = fresh_given store earlier b e in (record { pack = g; bin = h.0.bin g; list = h.0.list }, more)) (λ e. more)

module _ (room store : List ℕ) (made : ℕ) (held : holds_values room made ≡ true) (name : List ℕ) where
  pub record PlannedWhole (p : Planned) : Type 0 where
    pub spec : ComponentWhole p.spec
    pub source : WholeSource (Some p.source)
    pub pbp : WholeSource p.pbp_source

  abbrev pub WholePlanned : Option Planned → Type 0
  WholePlanned None = Unit {0}
  WholePlanned (Some p) = PlannedWhole p

  planned_whole : (c : Component) → ComponentWhole c → PlannedWhole (plans.planned c)
  unfolding plans.planned plans.payload plans.pbp_payload plans.head_left
  planned_whole c h =
      let pack = c.head.«package» in
      let own = c.boot.pbp_package in
      record {
        spec = record { name = h.name; filename = h.filename; partition = h.partition; attr = h.attr; lists = h.lists };
        source =
            picked (λ (s : Source). WholeSource (Some s)) (is_given pack) (λ e. record { pack = e; bin = or_given c.head.bin pack e; list = h.lists.0 })
            (λ e. or_given c.head.file (texts.Stored 0 0) refl);
        pbp =
            picked WholeSource (is_given c.boot.pbp) (λ e. e)
            (λ e. picked WholeSource (is_given own) (λ d. record { pack = d; bin = d; list = h.lists.1 }) (λ d. tt));
      }

  found_whole : (f : Option Component) → WholeComponent f → WholePlanned (plans.planned_found f)
  found_whole None h = tt
  found_whole (Some c) h = planned_whole c h

  abbrev numbers : List ℕ
  numbers = items room (views.component_list room store made).end (views.component_list room store made).place 0

  own_whole : (i : ℕ) → WholePlanned (plans.own room store made i)
  own_whole i = found_whole (views.component room store made i 32) (component_found_lem room store made held 32 (nth_of numbers i))

  as_component : (a : Application) → ApplicationWhole a → ComponentWhole (plans.component_of a)
  unfolding plans.component_of
  as_component a h = record { name = h.name; filename = h.filename; partition = h.partition; attr = h.attr; lists = (h.list, tt) }

  pub planned_found_lem : (c : Choice) (i : ℕ) → WholePlanned (plans.component room store made c i)
  unfolding plans.composed
  planned_found_lem choices.BootChain i = own_whole i
  planned_found_lem choices.Undeclared i = tt
  planned_found_lem (choices.At place n) i =
      let ahead : ℕ = plans.ahead room store made in
      let a = (application_at room store made n 32).application in
      picked WholePlanned (ltb i ahead) (λ e. own_whole i)
      (λ e. picked WholePlanned (eqb i ahead) (λ d. planned_whole (plans.component_of a) (as_component a (application_whole room store made held n 32))) (λ d. own_whole (i - 1)))

  uses_whole : (ns : List ℕ) → Each UseWhole (needed.uses_of room store made ns)
  unfolding needed.wanted
  uses_whole [] = tt
  uses_whole (n ∷ ns) =
      let c = (component_at room store made n 32).component in
      let low = component_low room store made held n 32 in
      (built_use c.head.«package» c.head.bin c.role.features low.0, (built_use c.boot.pbp_package texts.Absent c.role.pbp_features low.1, uses_whole ns))

  chosen_whole : (c : Choice) → Each UseWhole (needed.uses room store made c)
  unfolding needed.application_use
  chosen_whole choices.BootChain = uses_whole (take 64 numbers)
  chosen_whole choices.Undeclared = tt
  chosen_whole (choices.At place n) =
      let a = (application_at room store made n 32).application in
      each_joined UseWhole (needed.own_uses room store made) (needed.application_use room store made n ∷ []) (uses_whole (take 64 numbers))
      (built_use a.«package» texts.Absent a.features (application_low room store made held n 32), tt)

  pub build_found : (c : Choice) (i : ℕ) → WholeBuild (needed.build room store made c i)
  unfolding needed.build needed.builds_of
  build_found c i =
      let bs : List Build = needed.first_uses store [] (needed.uses room store made c) in
      picked WholeBuild (ltb i (length bs))
      (λ e. each_at BuildWhole bs i needed.blank (ltb-true i (length bs) e) (first_whole store [] (needed.uses room store made c) (chosen_whole c))) (λ e. tt)

  -- the stem of what is declared
  pub stem_given : (c : Choice) → (c ≡ choices.Undeclared → ⊥) → Given (stems.stem room store made name c)
  unfolding stems.boot_stem
  stem_given choices.BootChain h =
      or_given (stems.leading room store made) _ (board_whole room store made (fields_of room made 1) (lent_text name) (lent_given name)).name
  stem_given choices.Undeclared h = absurd (h refl)
  stem_given (choices.At place n) h = refl

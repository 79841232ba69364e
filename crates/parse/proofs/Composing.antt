-- A component's fields: one law for each group, from what its readers said.
use Prim.Native.Nat.{ℕ, ◌+◌, ◌-◌, ◌^◌, ◌≤◌, ◌<◌}
use mathlib.Core.Bool.{Bool, true, false}
use mathlib.Core.List.{List, [], ◌∷◌}
use mathlib.Core.Path.{◌≡◌, refl, sym, ap, ◌∙◌}
use native.Mathlib.Omega.{arith}
use mir.Syntax.{w64}
use mir.Val.{Fits}
use borrow.Author.Tests.{leb-true, ltb-true, ltb-false}
use lib.Dec.{leb, ltb}
use lib.ListN.{length, drop, length-drop}
use lib.Seq.{length-take-le}
use Rattle.meaning.specs.Base.{ascii, nil?}
use Rattle.laws.specs.Cases.{on}
use Rattle.laws.specs.Variants.{Left, others}
use Rattle.tree.specs.declared.Fields.{Fields}
use Rattle.tree.specs.declared.Value.{Value}
use Rattle.tree.specs.Doors.{field}
use Rattle.schema.specs.contracts.Text.{enum}
use Rattle.schema.specs.declared.Text.{Text}
use Rattle.schema.specs.declared.Text.TheVariants as texts
use Rattle.schema.specs.declared.Word.TheVariants as words
use Rattle.parse.specs.declared.field.KindRead.{KindRead}
use Rattle.schema.specs.Texts.{clip, or_text}
use Rattle.features.specs.declared.FeaturesRead.{FeaturesRead}
use Rattle.features.specs.Pieces.{pieces, features_read}
use Rattle.std.specs.Prelude.{Option, Some, None, unwrap_or}
use Rattle.parse.specs.declared.field.TextRead.{TextRead}
use Rattle.parse.specs.declared.field.NumberRead.{NumberRead}
use Rattle.parse.specs.declared.field.FlagRead.{FlagRead}
use Rattle.parse.specs.declared.component.Sources.{Sources}
use Rattle.parse.specs.declared.component.HeadRead.{HeadRead}
use Rattle.parse.specs.declared.component.Lists.{Lists}
use Rattle.parse.specs.declared.component.RoleRead.{RoleRead}
use Rattle.parse.specs.declared.component.BootRead.{BootRead}
use Rattle.parse.specs.declared.component.LoadRead.{LoadRead}
use Rattle.parse.specs.Fields.{first_fault, text_at, text_needed, number_at, flag_at, kind_at}
use Rattle.features.specs.declared.Piece.{Piece}
use Rattle.parse.specs.File.{file_at, Placed}
use Rattle.parse.specs.Component.{name_in, filename_for, sources, head_read, lists, role_read, boot_read, load_read, component_read}

-- ---- a file's name

-- only a stored text has one
pub name_else : (store : List ℕ) (file : Text) → Left enum (0 ∷ 2 ∷ 3 ∷ 4 ∷ []) file → texts.Absent ≡ name_in store file
name_else store = others enum (λ t. texts.Absent ≡ name_in store t) (0 ∷ 2 ∷ 3 ∷ 4 ∷ []) (λ _. refl) (λ _. refl) (λ _. refl) (λ _. refl)

-- a part of the store that is not empty ends in it
clip_end : (store : List ℕ) (from len : ℕ) → 0 < length (clip from len store) → from + length (clip from len store) ≤ length store
unfolding clip
clip_end store from len h =
    on (leb (from + len) (length store))
    (λ e.
    let l : from + len ≤ length store = leb-true (from + len) (length store) e in
    let d : from + len - from ≡ len = omega arith in
    let k : len ≤ length (drop from store) = simp length-drop (omega arith) in
    rw (e, d, length-take-le len (drop from store) k) l)
    (λ e. absurd (let k : 0 < 0 = rw e at h in omega arith))

module _ (store : List ℕ) (file : Text) where
  module _ (from len : ℕ) (e : file ≡ texts.Stored from len) (s : List ℕ) (g : s ≡ clip from len store) (p : Option Piece) (h : Placed s (file_at s) p) where
    pub name_none : p ≡ None → texts.Absent ≡ name_in store file
    name_none i = let k : None ≡ file_at (clip from len store) = sym i ∙ h.is ∙ ap file_at g in rw (e, ← k)

    module _ (u : Piece) (i : p ≡ Some u) where
      pub name_at : texts.Stored (from + u.from) u.len ≡ name_in store file
      name_at = let k : Some u ≡ file_at (clip from len store) = sym i ∙ h.is ∙ ap file_at g in rw (e, ← k)

      pub name_fits : length store < 2 ^ 64 → from < 2 ^ 64 → Fits w64 (from + u.from)
      name_fits l m =
          let k : u.from + u.len ≤ length s = rw i at h.inside in
          let q : length s ≡ length (clip from len store) = ap length g in
          on (ltb 0 (length s))
          (λ t. record { fits = omega (arith, clip_end store from len (omega (arith, ltb-true 0 (length s) t))) })
          (λ t. record { fits = omega (arith, ltb-false 0 (length s) t) })

pub filename_is : (store : List ℕ) (s : Sources) (named last rest r : Text) → named ≡ name_in store s.file
    → last ≡ or_text s.«package» (texts.Fixed words.Component) → rest ≡ or_text named last → r ≡ or_text s.bin rest
    → r ≡ filename_for store s
unfolding filename_for
filename_is store s named last rest r e g h i = rw (i, h, g, e)

-- ---- the groups

module _ (room store : List ℕ) (f : Fields) where
  pub sources_are : (p b s : TextRead) (late all : ℕ) → p ≡ text_at room store f (ascii "package") → b ≡ text_at room store f (ascii "bin")
      → s ≡ text_at room store f (ascii "file") → late ≡ first_fault b.fault s.fault → all ≡ first_fault p.fault late
      → record { fault = all; «package» = p.text; bin = b.text; file = s.text } ≡ sources room store f
  unfolding sources
  sources_are p b s late all e g h i j = rw (j, i, e, g, h)

  pub head_is : (k : KindRead) (n : TextRead) (s : Sources) (t : TextRead) (late mid all : ℕ) (g r : Text)
      → k ≡ kind_at room store f → n ≡ text_needed room store f (ascii "name") → s ≡ sources room store f → t ≡ text_at room store f (ascii "filename")
      → late ≡ first_fault s.fault t.fault → mid ≡ first_fault n.fault late → all ≡ first_fault k.fault mid
      → g ≡ filename_for store s → r ≡ or_text t.text g
      → record {
        fault = all;
        head = record { kind = k.kind; name = n.text; «package» = s.«package»; bin = s.bin; file = s.file; filename = r };
      }
      ≡ head_read room store f
  unfolding head_read
  head_is k n s t late mid all g r e1 e2 e3 e4 e5 e6 e7 e8 e9 = rw (e7, e6, e5, e9, e8, e1, e2, e3, e4)

  pub boot_is : (u : FlagRead) (n : NumberRead) (t o p : TextRead) (end late mid all : ℕ)
      → u ≡ flag_at room store f (ascii "updater") → n ≡ number_at room store f (ascii "ram") → t ≡ text_at room store f (ascii "pbp")
      → o ≡ text_at room store f (ascii "pbp_package") → p ≡ text_at room store f (ascii "private")
      → end ≡ first_fault o.fault p.fault → late ≡ first_fault t.fault end → mid ≡ first_fault n.fault late → all ≡ first_fault u.fault mid
      → record { fault = all; boot = record { updater = u.flag; ram = n.number; pbp = t.text; pbp_package = o.text; private = p.text } }
      ≡ boot_read room store f
  unfolding boot_read
  boot_is u n t o p end late mid all e1 e2 e3 e4 e5 e6 e7 e8 e9 = rw (e9, e8, e7, e6, e1, e2, e3, e4, e5)

  pub load_is : (a p o v : NumberRead) (e : FlagRead) (r : NumberRead) (end late mid low all d : ℕ)
      → a ≡ number_at room store f (ascii "load_address") → p ≡ number_at room store f (ascii "entry_point")
      → o ≡ number_at room store f (ascii "entry_offset") → v ≡ number_at room store f (ascii "header_version")
      → e ≡ flag_at room store f (ascii "with_ext") → r ≡ number_at room store f (ascii "ext_reserve")
      → end ≡ first_fault e.fault r.fault → late ≡ first_fault v.fault end → low ≡ first_fault o.fault late
      → mid ≡ first_fault p.fault low → all ≡ first_fault a.fault mid → d ≡ unwrap_or r.number 0
      → record {
        fault = all;
        load = record {
          load_address = a.number;
          entry_point = p.number;
          entry_offset = o.number;
          header_version = v.number;
          with_ext = e.flag;
          ext_reserve = d;
        };
      }
      ≡ load_read room store f
  unfolding load_read
  load_is a p o v e r end late mid low all d e1 e2 e3 e4 e5 e6 e7 e8 e9 e10 e11 e12
      = rw (e11, e10, e9, e8, e7, e12, e1, e2, e3, e4, e5, e6)

  module _ (made limit : ℕ) where
    module _ (v w : Value) (all own : FeaturesRead) (fault : ℕ) (b : Bool)
        (e1 : v ≡ field room store f (ascii "features")) (e2 : all ≡ features_read room store made limit v)
        (e3 : w ≡ field room store f (ascii "pbp_features")) (e4 : own ≡ features_read room store made limit w)
        (e5 : fault ≡ first_fault all.fault own.fault) (e6 : b ≡ nil? (pieces room store made own.features)) where
      pub lists_same : b ≡ true → record { fault = fault; features = all.features; pbp_features = all.features } ≡ lists room store made f limit
      unfolding lists
      lists_same t = rw (e5, ← e1, ← e3, ← e2, ← e4, ← e6, t)

      pub lists_own : b ≡ false → record { fault = fault; features = all.features; pbp_features = own.features } ≡ lists room store made f limit
      unfolding lists
      lists_own t = rw (e5, ← e1, ← e3, ← e2, ← e4, ← e6, t)

    pub role_is : (l : Lists) (p a t n : TextRead) (end late mid all : ℕ) (x y : Text)
        → l ≡ lists room store made f limit → p ≡ text_at room store f (ascii "partition") → a ≡ text_at room store f (ascii "attr")
        → t ≡ text_at room store f (ascii "target_attr") → n ≡ text_at room store f (ascii "target_filename")
        → end ≡ first_fault t.fault n.fault → late ≡ first_fault a.fault end → mid ≡ first_fault p.fault late → all ≡ first_fault l.fault mid
        → x ≡ or_text p.text (texts.Stored 0 0) → y ≡ or_text a.text (texts.Fixed words.Required)
        → record {
          fault = all;
          role = record {
            features = l.features;
            pbp_features = l.pbp_features;
            partition = x;
            attr = y;
            target_attr = t.text;
            target_filename = n.text;
          };
        }
        ≡ role_read room store made f limit
    unfolding role_read
    role_is l p a t n end late mid all x y e1 e2 e3 e4 e5 e6 e7 e8 e9 e10 e11 = rw (e9, e8, e7, e6, e10, e11, e1, e2, e3, e4, e5)

    pub component_is : (h : HeadRead) (r : RoleRead) (b : BootRead) (l : LoadRead) (late mid all : ℕ)
        → h ≡ head_read room store f → r ≡ role_read room store made f limit → b ≡ boot_read room store f → l ≡ load_read room store f
        → late ≡ first_fault b.fault l.fault → mid ≡ first_fault r.fault late → all ≡ first_fault h.fault mid
        → record { fault = all; component = record { head = h.head; role = r.role; boot = b.boot; load = l.load } }
        ≡ component_read room store made f limit
    unfolding component_read
    component_is h r b l late mid all e1 e2 e3 e4 e5 e6 e7 = rw (e7, e6, e5, e1, e2, e3, e4)

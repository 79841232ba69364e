-- The lines of the listing: one law for each.
use Prim.Native.Nat.{ℕ, ◌+◌}
use mathlib.Core.Bool.{Bool, true, false}
use mathlib.Core.List.{List, [], ◌∷◌, append_assoc, append-nil}
use mathlib.Core.Path.{◌≡◌, ap}
use Rattle.meaning.specs.Base.{ascii}
use Rattle.meaning.specs.Schema as meant
use Rattle.meaning.specs.Quoting.{quoted}
use Rattle.meaning.specs.Print.{decimal, spelling, shown, ended}
use Rattle.meaning.specs.Listing.{chip_named, media_named, kind_named, lock_named, placed, stem_line, refused_line}
use Rattle.schema.specs.declared.Text.{Text}
use Rattle.schema.specs.declared.Word.{Word}
use Rattle.schema.specs.declared.Chip.{Chip}
use Rattle.schema.specs.declared.Chip.TheVariants as chips
use Rattle.schema.specs.declared.Media.{Media}
use Rattle.schema.specs.declared.Media.TheVariants as medias
use Rattle.schema.specs.declared.Kind.{Kind}
use Rattle.schema.specs.declared.Kind.TheVariants as kinds
use Rattle.schema.specs.declared.Partition.{Partition}
use Rattle.schema.specs.Words.{word, chip_meant, media_meant, kind_meant, chip_word, media_word, kind_word}
use Rattle.schema.specs.Texts.{clip, spelled}
use Rattle.parse.specs.declared.view.Counts.{Counts}
use Rattle.parse.specs.declared.view.Device.{Device}
use Rattle.parse.specs.Views.{counts_of, device_of}
use Rattle.report.specs.declared.brief.ComponentBrief.{ComponentBrief}
use Rattle.report.specs.declared.brief.ApplicationBrief.{ApplicationBrief}
use Rattle.page.specs.declared.Page.{Page}
use Rattle.page.specs.Page.{Adds}
use Rattle.report.specs.Shown as rooms
use Rattle.page.proofs.Pages.{adds_then, adds_as}

-- ---- words
chip_said : (c : Chip) (w : Word) → w ≡ chip_word c → word w ≡ spelling (chip_named (chip_meant c))
unfolding word spelling meant.chip_word
chip_said chips.D13x w e = rw e
chip_said chips.D21x w e = rw e

media_said : (m : Media) (w : Word) → w ≡ media_word m → word w ≡ spelling (media_named (media_meant m))
unfolding word spelling meant.media_word
media_said medias.SpiNor w e = rw e
media_said medias.SpiNand w e = rw e

kind_said : (k : Kind) (w : Word) → w ≡ kind_word k → word w ≡ spelling (kind_named (kind_meant k))
unfolding word spelling meant.kind_word
kind_said kinds.App w e = rw e
kind_said kinds.Pbp w e = rw e
kind_said kinds.Raw w e = rw e

module _ (b : Bool) (p q : Page) where
  pub is_locked : b ≡ true → Adds (32 ∷ ascii "locked") p q → Adds (32 ∷ spelling (lock_named b)) p q
  unfolding spelling
  is_locked e x = rw e x

  pub is_open : b ≡ false → Adds (32 ∷ ascii "open") p q → Adds (32 ∷ spelling (lock_named b)) p q
  unfolding spelling
  is_open e x = rw e x

-- a field by what it says
field_by : {s t : List ℕ} {p q : Page} → s ≡ t → Adds (32 ∷ s) p q → Adds (32 ∷ t) p q
field_by e x = adds_as (ap (λ (s : List ℕ). 32 ∷ s) e) x

-- ---- lines
module _ (p p1 p2 p3 : Page) where
  pub stem_line_lem : (s : List ℕ) → Adds (ascii "stem") p p1 → Adds (32 ∷ quoted s) p1 p2 → Adds (10 ∷ []) p2 p3 → Adds (ended (stem_line s)) p p3
  unfolding stem_line spelling
  stem_line_lem s w a z = simp append_assoc (adds_then w (adds_then a z))

  pub device_line : (chip : Chip) (media : Media) (c m : Word)
      → Adds (ascii "ok") p p1 → Adds (32 ∷ word c) p1 p2 → Adds (32 ∷ word m) p2 p3 → c ≡ chip_word chip → m ≡ media_word media
      → Adds (rooms.device chip media) p p3
  unfolding spelling
  device_line chip media c m w x y e f = simp append-nil (adds_then w (adds_then (field_by (chip_said chip c e) x) (field_by (media_said media m f) y)))

  module _ (p4 : Page) where
    pub build_line_lem : (store name : List ℕ) (t : Text) (k : ℕ)
        → Adds (ascii "build") p p1 → Adds (32 ∷ quoted (spelled store name t)) p1 p2 → Adds (32 ∷ decimal k) p2 p3 → Adds (10 ∷ []) p3 p4
        → Adds (rooms.build store name t k) p p4
    unfolding rooms.build spelling
    build_line_lem store name t k w x y z = simp append_assoc (adds_then w (adds_then x (adds_then y z)))

    module _ (p5 : Page) where
      pub part_line_lem : (p6 : Page) (store : List ℕ) (d : Partition) (s : List ℕ) (end : ℕ)
          → Adds (ascii "part") p p1 → Adds (32 ∷ quoted s) p1 p2 → Adds (32 ∷ decimal d.offset) p2 p3 → Adds (32 ∷ decimal end) p3 p4
          → Adds (32 ∷ spelling (lock_named d.locked)) p4 p5 → Adds (10 ∷ []) p5 p6
          → s ≡ clip d.from d.len store → end ≡ d.offset + d.size
          → Adds (rooms.part store d) p p6
      unfolding rooms.part spelling
      part_line_lem p6 store d s end w x y v l z e f =
          simp append_assoc (adds_then w (adds_then (field_by (ap quoted e) x) (adds_then y (adds_then (field_by (ap decimal f) v) (adds_then l z)))))

      pub refused_line_lem : (number section place : ℕ)
          → Adds (ascii "refused") p p1 → Adds (32 ∷ decimal number) p1 p2 → Adds (32 ∷ decimal section) p2 p3 → Adds (32 ∷ decimal place) p3 p4 → Adds (10 ∷ []) p4 p5
          → Adds (ended (refused_line number section place)) p p5
      unfolding refused_line spelling
      refused_line_lem number section place w x y v z = simp append_assoc (adds_then w (adds_then x (adds_then y (adds_then v z))))

      module _ (store name : List ℕ) where
        pub comp_line_lem : (b : ComponentBrief) (k : Word)
            → Adds (ascii "comp") p p1 → Adds (32 ∷ quoted (spelled store name b.name)) p1 p2 → Adds (32 ∷ word k) p2 p3
            → Adds (32 ∷ shown (placed (spelled store name b.partition))) p3 p4 → Adds (10 ∷ []) p4 p5
            → k ≡ kind_word b.kind
            → Adds (rooms.comp store name b) p p5
        unfolding rooms.comp spelling
        comp_line_lem b k w x y v z e = simp append_assoc (adds_then w (adds_then x (adds_then (field_by (kind_said b.kind k e) y) (adds_then v z))))

        pub app_line_lem : (b : ApplicationBrief)
            → Adds (ascii "app") p p1 → Adds (32 ∷ quoted (spelled store name b.«package»)) p1 p2 → Adds (32 ∷ quoted (spelled store name b.name)) p2 p3
            → Adds (32 ∷ shown (placed (spelled store name b.partition))) p3 p4 → Adds (10 ∷ []) p4 p5
            → Adds (rooms.app store name b) p p5
        unfolding rooms.app spelling meant.kind_word
        app_line_lem b w x y v z = simp append_assoc (adds_then w (adds_then x (adds_then y (adds_then v z))))

      pub counts_line : (room store : List ℕ) (made : ℕ) (c : Counts)
          → Adds (32 ∷ decimal c.partitions) p p1 → Adds (32 ∷ decimal c.components) p1 p2 → Adds (32 ∷ decimal c.applications) p2 p3
          → Adds (32 ∷ decimal made) p3 p4 → Adds (10 ∷ []) p4 p5
          → c ≡ counts_of room store made
          → Adds (rooms.counts room store made) p p5
      unfolding rooms.counts
      counts_line room store made c x y v w z e = simp append_assoc (adds_then (rw e at x) (adds_then (rw e at y) (adds_then (rw e at v) (adds_then w z))))

pub ok_line_lem : (room store : List ℕ) (made : ℕ) (p q r : Page) (d : Device) → Adds (rooms.device d.chip d.media) p q → Adds (rooms.counts room store made) q r → d ≡ device_of room store made
    → Adds (rooms.ok room store made) p r
unfolding rooms.ok
ok_line_lem room store made p q r d x y e = adds_then (rw e at x) y

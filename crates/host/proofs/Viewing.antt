-- Views of the records: one law for each way out.
use Prim.Native.Nat.{ℕ, ◌≤◌, ◌<◌}
use mathlib.Core.Bool.{Bool, true}
use mathlib.Core.List.{List, []}
use mathlib.Core.Path.{◌≡◌, sym, ap, ◌∙◌}
use borrow.Author.Tests.{eq-eqb, ne_eqb, lt-ltb, le-ltb}
use lib.ListN.{length}
use Rattle.meaning.specs.Base.{zeros}
use Rattle.tree.specs.declared.Fields.{Fields}
use Rattle.tree.specs.Doors.{fields_of}
use Rattle.schema.specs.declared.Word.{Word}
use Rattle.schema.specs.declared.Text.{Text}
use Rattle.schema.specs.declared.Text.TheVariants as texts
use Rattle.std.specs.Prelude.{Option, None}
use Rattle.features.specs.declared.Piece.{Piece}
use Rattle.schema.specs.declared.Features.{Features}
use Rattle.schema.specs.declared.Partition.{Partition}
use Rattle.schema.specs.declared.Component.{Component}
use Rattle.schema.specs.declared.Application.{Application}
use Rattle.schema.specs.Words.{Put}
use Rattle.features.specs.Pieces.{pieces, next_of}
use Rattle.parse.specs.declared.front.Front.{Front}
use Rattle.parse.specs.declared.view.Counts as counted
use Rattle.parse.specs.Front.{front_read}
use Rattle.parse.specs.Views.{holds_values, counts_at, partition, application}
use Rattle.parse.specs.Refused.{lent_text}
use Rattle.host.specs.declared.records.Bytes.{Bytes}
use Rattle.host.specs.declared.records.Amount.{Amount}
use Rattle.host.specs.declared.records.FeatureList.{FeatureList}
use Rattle.host.specs.declared.records.BoardView.{BoardView}
use Rattle.host.specs.declared.records.ImageView.{ImageView}
use Rattle.host.specs.declared.records.PartitionView.{PartitionView}
use Rattle.host.specs.declared.records.HeadView.{HeadView}
use Rattle.host.specs.declared.records.RoleView.{RoleView}
use Rattle.host.specs.declared.records.BootView.{BootView}
use Rattle.host.specs.declared.records.LoadView.{LoadView}
use Rattle.host.specs.declared.records.ApplicationView.{ApplicationView}
use Rattle.host.specs.declared.records.FeatureView.{FeatureView}
use Rattle.slices.proofs.Zeroing.{length_zeros}
use Rattle.host.specs.Records.{word_number, bytes_of, list_of, chip_number, media_number, no_bytes, no_amount, no_list, no_board, no_image, no_application, partition_of, head_of, role_of, boot_of, load_of, application_of, front, partition_shown, application_shown, board_view, image_view, counts_of, features_by, last_item, feature_of, feature_shown, word_by, word_size, word_room, Worded}

-- ---- fields as numbers
pub word_told : (w v : Word) → w ≡ v → word_number v ≡ word_number w
word_told w v e = ap word_number (sym e)

pub bytes_told : (t v : Text) → t ≡ v → bytes_of v ≡ bytes_of t
bytes_told t v e = ap bytes_of (sym e)

pub fixed_told : (t : Text) (w : Word) (n : ℕ) → t ≡ texts.Fixed w → n ≡ word_number w → record { kind = 3; word = n; from = 0; len = 0 } ≡ bytes_of t
fixed_told t w n e d = rw (d, e)

pub list_told : (f g : Features) → f ≡ g → list_of g ≡ list_of f
list_told f g e = ap list_of (sym e)

-- ---- a record that is not there
module _ (a b c : Bytes) (ea : a ≡ no_bytes) (eb : b ≡ no_bytes) (ec : c ≡ no_bytes) where
  pub board_none : record { found = 0; chip = 0; name = a; target = b; profile = c } ≡ no_board
  board_none = rw (ea, eb, ec)

  module _ (d e : Bytes) (ed : d ≡ no_bytes) (ee : e ≡ no_bytes) where
    pub image_none : record { found = 0; media = 0; media_dev_id = 0; platform = a; product = b; version = c; media_id = d; app = e } ≡ no_image
    image_none = rw (ea, eb, ec, ed, ee)

    pub application_none : (f : FeatureList) (l o : Amount) → f ≡ no_list → l ≡ no_amount → o ≡ no_amount
        → record { found = 0; «package» = a; name = b; partition = c; filename = d; attr = e; features = f; load_address = l; entry_offset = o } ≡ no_application
    application_none f l o ef el eo = rw (ea, eb, ec, ed, ee, ef, el, eo)

-- ---- a component's four parts
module _ (f : Option Component) where
  -- of the component that was asked for
  module _ (g : Option Component) (e : g ≡ f) where
    pub head_shown : (r : HeadView) → r ≡ head_of g → r ≡ head_of f
    head_shown r h = h ∙ ap head_of e

    pub role_shown : (r : RoleView) → r ≡ role_of g → r ≡ role_of f
    role_shown r h = h ∙ ap role_of e

    pub boot_shown : (r : BootView) → r ≡ boot_of g → r ≡ boot_of f
    boot_shown r h = h ∙ ap boot_of e

    pub load_shown : (r : LoadView) → r ≡ load_of g → r ≡ load_of f
    load_shown r h = h ∙ ap load_of e

-- ---- the others
pub counts_told : (room store : List ℕ) (made : ℕ) (c : counted.Counts) → c ≡ counts_at room store made
    → record { partitions = c.partitions; components = c.components; applications = c.applications } ≡ counts_of (counts_at room store made)
counts_told room store made c e = ap counts_of e

-- ---- of sound rooms
module _ (room store : List ℕ) (made i : ℕ) (s : Bool) (e : s ≡ holds_values room made) (p : s ≡ true) where
  pub partition_shown_lem : (f : Option Partition) (r : PartitionView) → f ≡ partition room store made i → r ≡ partition_of f → r ≡ partition_shown room store made i
  partition_shown_lem f r d h = rw (← e, p) (h ∙ ap partition_of d)

  pub application_shown_lem : (f : Option Application) (r : ApplicationView) → f ≡ application room store made i 32 → r ≡ application_of f → r ≡ application_shown room store made i
  application_shown_lem f r d h = rw (← e, p) (h ∙ ap application_of d)

-- ---- the board and the image
module _ (room store : List ℕ) (made : ℕ) where
  pub front_told : (name : List ℕ) (f : Fields) (t : Text) (r : Front) → f ≡ fields_of room made 1 → t ≡ lent_text name → r ≡ front_read room store made f t
      → r ≡ front room store made name
  front_told name f t r e d h = h ∙ rw (e, d)

  module _ (f : Front) where
    pub board_refused : (name : List ℕ) (r : BoardView) → f ≡ front room store made name → (f.fault.number ≡ 0 → ⊥) → r ≡ no_board → r ≡ board_view room store made name
    unfolding board_view
    board_refused name r e z h = rw (← e, ne_eqb f.fault.number 0 z) h

    pub board_told : (name : List ℕ) (k : ℕ) (n t p : Bytes) → f ≡ front room store made name → f.fault.number ≡ 0
        → k ≡ chip_number f.board.chip → n ≡ bytes_of f.board.name → t ≡ bytes_of f.board.target → p ≡ bytes_of f.board.profile
        → record { found = 1; chip = k; name = n; target = t; profile = p } ≡ board_view room store made name
    unfolding board_view
    board_told name k n t p e z ek en et ep = rw (← e, eq-eqb f.fault.number 0 z, ek, en, et, ep)

    pub image_refused : (r : ImageView) → f ≡ front room store made [] → (f.fault.number ≡ 0 → ⊥) → r ≡ no_image → r ≡ image_view room store made
    unfolding image_view
    image_refused r e z h = rw (← e, ne_eqb f.fault.number 0 z) h

    pub image_told : (k : ℕ) (a b c d g : Bytes) → f ≡ front room store made [] → f.fault.number ≡ 0
        → k ≡ media_number f.image.media → a ≡ bytes_of f.image.platform → b ≡ bytes_of f.image.product → c ≡ bytes_of f.image.version
        → d ≡ bytes_of f.image.media_id → g ≡ bytes_of f.image.app
        → record { found = 1; media = k; media_dev_id = f.image.media_dev_id; platform = a; product = b; version = c; media_id = d; app = g } ≡ image_view room store made
    unfolding image_view
    image_told k a b c d g e z ek ea eb ec ed eg = rw (← e, eq-eqb f.fault.number 0 z, ek, ea, eb, ec, ed, eg)

-- ---- features
pub feature_shown_lem : (room store : List ℕ) (made kind from len begun last size : ℕ) (s : Bool) (f : Features) (b g : Option Piece) (r : FeatureView)
    → s ≡ holds_values room made → s ≡ true → f ≡ features_by kind from len → b ≡ last_item begun last size → g ≡ next_of store b None (pieces room store made f)
    → r ≡ feature_of g → r ≡ feature_shown room store made kind from len begun last size
feature_shown_lem room store made kind from len begun last size s f b g r es p ef eb eg h =
    let k : g ≡ next_of store (last_item begun last size) None (pieces room store made (features_by kind from len)) = rw (← ef, ← eb) eg in
    rw (← es, p) (h ∙ ap feature_of k)

-- ---- words
pub word_by_lem : (n m : ℕ) → n ≡ m → word_by m ≡ word_by n
word_by_lem n m e = ap word_by (sym e)

module _ (n : ℕ) (out out' : List ℕ) where
  pub word_none : n ≡ 0 → out' ≡ zeros (length out) → Worded n out out' 0
  unfolding word_size word_room
  word_none z h = record { says = rw (eq-eqb n 0 z); left = rw (eq-eqb n 0 z) h }

  module _ (z : n ≡ 0 → ⊥) where
    pub word_past : 17 < n → out' ≡ zeros (length out) → Worded n out out' 0
    unfolding word_size word_room
    word_past l h = record { says = rw (ne_eqb n 0 z, lt-ltb 17 n l); left = rw (ne_eqb n 0 z, lt-ltb 17 n l) h }

    pub word_put : (out₁ : List ℕ) (w : Word) (r : ℕ) → n ≤ 17 → out₁ ≡ zeros (length out) → w ≡ word_by n → Put w out₁ out' r → Worded n out out' r
    unfolding word_size word_room
    word_put out₁ w r l e d p =
        let k : length out₁ ≡ length out = ap length e ∙ length_zeros (length out) in
        record {
          says = rw (ne_eqb n 0 z, le-ltb 17 n l, ← d, ← k) p.says;
          left = rw (ne_eqb n 0 z, le-ltb 17 n l, ← d, ← e, ← k) p.left;
        }

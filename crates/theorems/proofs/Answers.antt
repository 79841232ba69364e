-- The exported functions give 01's answers, by their contracts.
use Prim.Native.Nat.{ℕ, ◌*◌}
use mathlib.Core.List.{List, []}
use mathlib.Core.Path.{◌≡◌, refl, sym, ap, subst, ◌∙◌}
use lib.ListN.{length}
use Rattle.meaning.specs.Limits.{of01, value_bytes}
use Rattle.meaning.specs.Refusal.{Answer, accepted, refused, accepted_then}
use Rattle.meaning.specs.Rooms.{output_after}
use Rattle.meaning.specs.Document.{Parsed, document}
use Rattle.meaning.specs.Preset.{Read}
use Rattle.meaning.specs.Plan as meant
use Rattle.meaning.specs.Listing as meant-listing
use Rattle.laws.specs.Cases.{on}
use Rattle.laws.specs.Answers.{accepted_one, refused_never, after_accepted}
use Rattle.laws.specs.Rooms.{read_parts, valid_read}
use Rattle.laws.specs.Plans.{text_planned}
use Rattle.values.specs.Doc.{Doc, document_s}
use Rattle.values.proofs.Carrying.{length_cells}
use Rattle.agree.specs.Whole.{Doc-agrees}
use Rattle.agree.proofs.Theorem.{agreement}
use Rattle.toml_lite.specs.Rooms.{cells_of, values_of}
use Rattle.plan.specs.ChoiceSaid.{selection}
use Rattle.host.specs.declared.documents.Outcome.{Outcome}
use Rattle.host.specs.declared.listings.Listed.{Listed}
use Rattle.host.specs.Presets.{outcome_by, Answered, recorded, validated}
use Rattle.host.specs.Planned.{Composed, planned_read, planned_shown}
use Rattle.host.specs.Listings.{listed_by, listing, reported_decides}
use Rattle.host.proofs.Recording.{answered_decides}
use Rattle.theorems.specs.Answers.{Numbers, Sized, Says, ReadSays, ValidateSays, plan_by01, read_of, PlanSays, PlanIsShown, Lists, read_for, ListingSays, OneAnswer, OneListing}

-- ---- what the contracts come to

-- the values that a text makes, by their bytes
values_long : (text : List ℕ) (p : Parsed) → document of01 text ≡ accepted p → length (values_of text) ≡ value_bytes * p.made
values_long text p e = go (document of01 text) (document_s of01 text) refl (agreement of01 text) e
  where
    go : (a : Answer Parsed) (b : Answer Doc) → document_s of01 text ≡ b → Doc-agrees [] a b → a ≡ accepted p → length (cells_of (document_s of01 text)) ≡ value_bytes * p.made
    go (accepted q) (accepted d) eb h k =
        let m : q.made ≡ p.made = ap (λ (x : Parsed). x.made) (accepted_one q p k) in
        rw eb (length_cells d.slots ∙ ap (λ (n : ℕ). value_bytes * n) (sym h.1 ∙ m))
    go (accepted q) (refused f i l) eb h k = absurd h
    go (refused f i l) b eb h k = refused_never f i l p k

sized_by : (text : List ℕ) (a : Answer Read) → ((x : Read) → a ≡ accepted x → document of01 text ≡ accepted x.parsed) → Sized a (values_of text)
sized_by text (accepted x) h = values_long text x.parsed (h x refl)
sized_by text (refused f section place) h = tt

numbers_of : (a : Answer Read) (r : Outcome) → r ≡ outcome_by a → Numbers a r
numbers_of (accepted x) r e = e
numbers_of (refused f section place) r e = e

module _ (text name store tree store' tree' : List ℕ) (r : Outcome) where
  said : (a : Answer Read) → Sized a (values_of text) → Answered a text name store tree store' tree' r → Says a name store tree store' tree' r
  said a s h =
      record {
        numbers = numbers_of a r h.says;
        rooms = record { values = values_of text; sized = s; store_is = h.store_is; tree_is = h.tree_is; shows = h.shows };
      }

  read_tree_lem : (x : Read) → recorded text name store tree ≡ accepted x → document of01 text ≡ accepted x.parsed
  read_tree_lem x e = (read_parts of01 (length store) (length tree) text name x e).0

  valid_tree : (x : Read) → validated text name store tree ≡ accepted x → document of01 text ≡ accepted x.parsed
  valid_tree x e = read_tree_lem x (valid_read of01 (length store) (length tree) text name x e)

planned_tree : (text name : List ℕ) (app : ℕ) (key store tree : List ℕ) (x : Read) → read_of (plan_by01 text name app key store tree) ≡ accepted x → document of01 text ≡ accepted x.parsed
planned_tree text name app key store tree x e =
    let q = after_accepted (λ (y : meant.Planned). accepted y.read) (plan_by01 text name app key store tree) x e in
    let v = (text_planned of01 (length store) (length tree) name text (selection app key) q.0 q.1).0 in
    subst (λ (y : Read). document of01 text ≡ accepted y.parsed) (accepted_one q.0.read x q.2)
    (read_parts of01 (length store) (length tree) text name q.0.read (valid_read of01 (length store) (length tree) text name q.0.read v)).0

pub read_says : ReadSays
read_says text name store tree store' tree' r h =
    said text name store tree store' tree' r (recorded text name store tree)
    (sized_by text (recorded text name store tree) (read_tree_lem text name store tree store' tree' r)) h

pub validate_says : ValidateSays
validate_says text name store tree store' tree' r h =
    said text name store tree store' tree' r (validated text name store tree)
    (sized_by text (validated text name store tree) (valid_tree text name store tree store' tree' r)) h

pub plan_says : PlanSays
plan_says text name app key store tree store' tree' r h =
    said text name store tree store' tree' r (read_of (plan_by01 text name app key store tree))
    (sized_by text (read_of (plan_by01 text name app key store tree)) (planned_tree text name app key store tree))
    (subst (λ (a : Answer Read). Answered a text name store tree store' tree' r) (planned_read text name app key store tree) h)

pub plan_is_shown : PlanIsShown
plan_is_shown text name app key store tree store' tree' r x h e =
    let d = planned_read text name app key store tree ∙ ap read_of e in
    let s = planned_shown text name app key store tree store' tree' r x.read h d in
    let k = accepted_one x (record { read = x.read; plan = s.0 }) (sym e ∙ s.1) in
    subst (λ (q : meant.Plan). Composed name store' tree' app key x.read.parsed.made q) (sym (ap (λ (y : meant.Planned). y.plan) k)) s.3

lists_of : (a : Answer meant-listing.Listed) (out out' : List ℕ) (r : Listed) → r ≡ listed_by a → out' ≡ output_after meant-listing.bytes_of out a → Lists a out out' r
lists_of (accepted l) out out' r e d = (e, d)
lists_of (refused f section place) out out' r e d = (e, d)

-- a listing is made of the plan of the boot chain
listed_tree : (text name store tree out : List ℕ) (x : Read) → read_for (listing text name store tree out) ≡ accepted x → document of01 text ≡ accepted x.parsed
unfolding meant-listing.listing
listed_tree text name store tree out x e =
    on (meant-listing.short (length out) name)
    (λ t. refused_never _ _ _ x (rw t at e))
    (λ t. planned_tree text name 0 [] store tree x (sym (read_listed (plan_by01 text name 0 [] store tree)) ∙ rw t at e))
  where
    read_listed : (a : Answer meant.Planned) → read_for (accepted_then {Y = meant-listing.Listed} a (λ y. accepted (meant-listing.listed y))) ≡ read_of a
    read_listed (accepted y) = refl
    read_listed (refused f section place) = refl

pub listing_says : ListingSays
listing_says text name store tree out store' tree' out' r h = (
  lists_of (listing text name store tree out) out out' r h.says h.out_is,
  record {
    values = values_of text;
    sized = sized_by text (read_for (listing text name store tree out)) (listed_tree text name store tree out);
    store_is = h.store_is;
    tree_is = h.tree_is;
    shows = h.shows;
  },
)

pub one_answer : OneAnswer
one_answer = answered_decides

pub one_listing : OneListing
one_listing = reported_decides

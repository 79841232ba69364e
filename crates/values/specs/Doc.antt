-- Whole documents into the two rooms, line by line, as `meaning`'s Document has them.
use Rattle.std.specs.Prelude.{ℕ, List, [], ◌∷◌, ◌++◌, eqb, ltb, length}
use Rattle.meaning.specs.declared.Limits.{Limits}
use Rattle.meaning.specs.Base.{pick, nil?}
use Rattle.meaning.specs.Refusal.{Answer, accepted, accepted_then, R, ok, bad, at_line, at_no_line}
use Rattle.meaning.specs.Utf8.{valid}
use Rattle.meaning.specs.Space.{trim}
use Rattle.meaning.specs.Lines.{Line, joined}
use Rattle.meaning.specs.Keys.{keys}
use Rattle.meaning.specs.Document.{Form, pushes, heads, sets, neither, form}
use Rattle.scalar.specs.Splits.{flat, ends_of}
use Rattle.tree.specs.declared.Slot.{Slot}
use Rattle.values.specs.Out.{Out}
use Rattle.values.specs.Fill.{value_out}
use Rattle.values.specs.Grow.{Seg, segs_of, Grown, grown, stuck, onward, down_s, push_s, to_last_s, hang_s}

-- the rooms so far: the store's bytes, the tree room's values, and the place where assignments go
pub record Doc : Type 0 where
  pub bytes : List ℕ
  pub slots : List Slot
  pub here : ℕ

-- what a line leaves, or the number of its fault
abbrev pub settle_s : List ℕ → Grown → (ℕ → ℕ) → R Doc
settle_s bytes (grown vs p) f = ok (record { bytes = bytes; slots = vs; here = f p })
settle_s bytes (stuck n) f = bad n

-- a key's segments go to the store from left to right, and f goes on with the bytes and the segments
abbrev pub path_by : List ℕ → R (List (List ℕ)) → (List ℕ → List Seg → R Doc) → R Doc
path_by bytes (ok ks) f = f (bytes ++ flat ks) (segs_of (length bytes) (ends_of (length bytes) ks))
path_by bytes (bad n) f = bad n

-- by what the value left
abbrev pub value_by : Out → R Doc → R Doc
value_by o r = pick (eqb o.fault 0) r (bad o.fault)

module _ (lim : Limits) where
  -- "an assignment stores its value's strings first, then its key's segments"; 6: "nothing before `=`"
  abbrev pub assign_by : Out → List ℕ → Doc → R Doc
  assign_by o k d =
      value_by o
      (path_by (d.bytes ++ o.bytes) (keys lim.segments k)
      (λ bytes ks. settle_s bytes (to_last_s lim.values bytes (hang_s (length d.slots)) ks (d.slots ++ o.slots) d.here) (λ _. d.here)))

  unfoldable pub set_s : List ℕ → List ℕ → Doc → R Doc
  set_s k v d =
      pick (nil? k) (bad 6)
      (assign_by (value_out lim.values lim.arrays 0 (length d.bytes) (length d.slots) v) k d)

  -- one line; 5: "neither header nor assignment"
  unfoldable pub line_s : Form → Doc → R Doc
  line_s (pushes k) d = path_by d.bytes (keys lim.segments k) (λ bytes ks. settle_s bytes (to_last_s lim.values bytes (push_s lim.values bytes) ks d.slots 1) (λ p. p))
  line_s (heads k) d = path_by d.bytes (keys lim.segments k) (λ bytes ks. settle_s bytes (down_s lim.values bytes ks d.slots 1) (λ p. p))
  line_s (sets k v) d = set_s (trim k) v d
  line_s neither d = bad 5

  -- a fault is told at the line where the joined line starts
  abbrev pub told_at : ℕ → R Doc → (Doc → Answer Doc) → Answer Doc
  told_at at (ok d) f = f d
  told_at at (bad n) f = at_line n at

  -- "then line by line"
  abbrev pub lines_s : List Line → Doc → Answer Doc
  lines_s [] d = accepted d
  lines_s (l ∷ ls) d = told_at l.at (line_s (form (trim l.text)) d) (lines_s ls)

  abbrev pub empty : Doc
  empty = record { bytes = []; slots = []; here = 1 }

  -- "Order: 17, 1, 2; then 3 and 4 over the whole text before any line is read; then line by line"
  unfoldable pub document_s : List ℕ → Answer Doc
  document_s s = pick (ltb lim.text (length s)) (at_no_line 1) (pick (valid s) (accepted_then (joined s) (λ ls. lines_s ls empty)) (at_no_line 2))

unfoldable pub computes : Unit {0}
unfolding set_s line_s document_s Rattle.values.specs.Grow.computes Rattle.values.specs.Fill.computes Rattle.meaning.specs.Document.computes
computes = tt

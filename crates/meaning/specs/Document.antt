-- Headers and assignments, line by line: from a text to its tree, the store's bytes and the count of values made.
-- Refusals 1 to 17.
use Rattle.std.specs.Prelude.{ℕ, suc, ◌-◌, ◌*◌, Bool, false, List, [], ◌∷◌, ◌++◌, eqb, ltb, length, get_or, take, drop}
use Rattle.meaning.specs.Base.{pick, nil?, final, concat}
use Rattle.meaning.specs.Bytes.{equals_sign, open_bracket, close_bracket}
use Rattle.meaning.specs.Limits.{Limits, value_bytes}
use Rattle.meaning.specs.Refusal.{Answer, accepted, refused, accepted_then, numbered, in_text, at_no_line}
use Rattle.meaning.specs.Utf8.{valid}
use Rattle.meaning.specs.Space.{trim}
use Rattle.meaning.specs.declared.StringState.TheVariants.{Outside}
use Rattle.meaning.specs.Quote.{up_to}
use Rattle.meaning.specs.Lines.{Line, joined}
use Rattle.meaning.specs.Keys.{keys}
use Rattle.meaning.specs.Reading.{Grown, Got, got, failed, storing, got_then, ok_then_got, grow_map}
use Rattle.meaning.specs.Tree.{Table, empty, Grow, along_path, to_last_segment, must_exist, at_last_item, open_tables}
use Rattle.meaning.specs.Tree.{push, assign}
use Rattle.meaning.specs.Values.{value, Reader}

-- ---- what a line is

-- a header `[[..]]`, a header `[..]`, an assignment, or neither, with the parts that are read on: not yet trimmed
pub data Form : Type 0 where
  pushes heads : List ℕ → Form
  sets : List ℕ → List ℕ → Form
  neither : Form

-- "`[[..]]`"
unfoldable pub array_header : List ℕ → Bool
array_header l =
    pick (ltb (length l) 4) false
    (pick (eqb (get_or l 0 0) open_bracket)
    (pick (eqb (get_or l 1 0) open_bracket)
    (pick (eqb (final l) close_bracket) (eqb (get_or l (length l - 2) 0) close_bracket) false) false) false)

-- "`[..]` not starting `[[`"
unfoldable pub table_header : List ℕ → Bool
table_header l =
    pick (ltb (length l) 2) false
    (pick (eqb (get_or l 0 0) open_bracket)
    (pick (eqb (get_or l 1 0) open_bracket) false (eqb (final l) close_bracket)) false)

-- how many bytes stand before "the first `=` outside a string"
abbrev pub to_equals : List ℕ → ℕ
to_equals l = up_to equals_sign Outside l

-- "`[[..]]` is tried first, then `[..]` not starting `[[`, then the first `=` outside a string."
unfoldable pub form : List ℕ → Form
form l =
    pick (array_header l) (pushes (take (length l - 4) (drop 2 l)))
    (pick (table_header l) (heads (take (length l - 2) (drop 1 l)))
    (pick (ltb (to_equals l) (length l)) (sets (take (to_equals l) l) (drop (suc (to_equals l)) l))
    neither))

-- ---- where assignments go

-- the path of the last header, `[..]` or `[[..]]`
pub data Under : Type 0 where
  tables arrays : List (List ℕ) → Under

-- "Assignments go under the last header"
abbrev pub under_header : Under → (Table → Grow Table) → Table → Grow Table
under_header (tables p) f t = along_path must_exist f p t
under_header (arrays p) f t = to_last_segment must_exist (at_last_item f) p t

-- ---- one line

-- the tree so far, and where assignments go
pub record Doc : Type 0 where
  pub root : Table
  pub under : Under

module _ (lim : Limits) where
  -- a key or a header: "segments go left to right" to the store, and f goes on with them
  abbrev pub path : List ℕ → (List (List ℕ) → Grown Doc) → Got Doc
  path s f = ok_then_got (keys lim.segments s) (λ p. storing (concat p) (f p))

  -- "The value is read before the key is split"; "an assignment stores its value's strings first, then its key's
  -- segments"; 6: "nothing before `=`"
  unfoldable pub assignment : List ℕ → List ℕ → Doc → Reader Doc
  assignment k v d made =
      pick (nil? k) (failed (numbered 6))
      (got_then (value lim.values lim.arrays v made) (λ x m.
      path k (λ p.
      grow_map (λ t. record { root = t; under = d.under })
      (under_header d.under (assign lim.values p x) d.root m))))

  -- one line; 5: "neither header nor assignment"
  unfoldable pub read_form : Form → Doc → Reader Doc
  read_form (pushes k) d made =
      path k (λ p. grow_map (λ t. record { root = t; under = arrays p }) (push lim.values p d.root made))
  read_form (heads k) d made =
      path k (λ p. grow_map (λ t. record { root = t; under = tables p }) (open_tables lim.values p d.root made))
  read_form (sets k v) d made = assignment (trim k) v d made
  read_form neither d made = failed (numbered 5)

-- ---- one line after the other

-- what a text leaves: the tree, the bytes added to the store and how many values are made
pub record Parsed : Type 0 where
  pub root : Table
  pub bytes : List ℕ
  pub made : ℕ

-- the bytes bs, and then those that the rest adds
abbrev pub stored_first : List ℕ → Answer Parsed → Answer Parsed
stored_first bs a = accepted_then a (λ r. accepted (record { root = r.root; bytes = bs ++ r.bytes; made = r.made }))

-- one line and then the rest; a fault's place is "the physical line, from 1, where the joined line starts"
abbrev pub line_then : ℕ → Got Doc → (Doc → ℕ → Answer Parsed) → Answer Parsed
line_then at (got d bs m) rest = stored_first bs (rest d m)
line_then at (failed f) rest = refused f in_text at

module _ (lim : Limits) where
  -- "then line by line"
  abbrev pub read_lines : Doc → List Line → ℕ → Answer Parsed
  read_lines d [] made = accepted (record { root = d.root; bytes = []; made = made })
  read_lines d (l ∷ ls) made = line_then l.at (read_form lim (form (trim l.text)) d made) (λ e m. read_lines e ls m)

  -- "Order: 17, 1, 2; then 3 and 4 over the whole text before any line is read; then line by line"
  unfoldable pub document : List ℕ → Answer Parsed
  document s =
      pick (ltb lim.text (length s)) (at_no_line 1)
      (pick (valid s) (accepted_then (joined s) (λ ls. read_lines (record { root = empty; under = tables [] }) ls 0))
      (at_no_line 2))

  -- 17: "a lent room is too small", by its length alone: "The lent text store must take 32,768 bytes and the lent
  -- tree room 2,048 values, at a size per value fixed in docs/"
  unfoldable pub in_rooms : ℕ → ℕ → List ℕ → Answer Parsed
  in_rooms store tree s =
      pick (ltb store lim.text) (at_no_line 17)
      (pick (ltb tree (value_bytes * lim.values)) (at_no_line 17) (document s))

unfoldable pub computes : Unit {0}
unfolding array_header table_header form assignment read_form document in_rooms
    Rattle.meaning.specs.Utf8.computes
    Rattle.meaning.specs.Lines.computes
    Rattle.meaning.specs.Keys.computes
    Rattle.meaning.specs.Tree.computes
    Rattle.meaning.specs.Values.computes
computes = tt

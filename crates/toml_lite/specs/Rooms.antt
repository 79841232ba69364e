-- What the rooms hold between lines, what reading a line asks of them, and what it leaves.
use Rattle.std.specs.Prelude.{ℕ, ◌+◌, ◌*◌, ◌≤◌, ◌<◌, Bool, true, false, List, [], ◌≡◌, ltb, length, take, drop, Result, Ok, Err}
use Rattle.meaning.specs.declared.Limits.{Limits}
use Rattle.meaning.specs.Limits.{of01}
use Rattle.meaning.specs.declared.Refused.{Refused}
use Rattle.meaning.specs.Numbered.{number}
use Rattle.meaning.specs.Refusal.{Answer, accepted, refused, accepted_then, number_of, in_text, at_line, at_no_line, R, ok, bad}
use Rattle.meaning.specs.Base.{pick, zeros}
use Rattle.meaning.specs.Utf8.{valid}
use Rattle.meaning.specs.Keys.{keys}
use Rattle.meaning.specs.Lines.{closed, join}
use Rattle.text.specs.declared.AtLine.{AtLine}
use Rattle.text.specs.declared.Place.{Place}
use Rattle.text.specs.Answers.{answer_of, Between}
use Rattle.text.specs.Laid.{lines_of, laid}
use Rattle.scalar.specs.Stores.{over}
use Rattle.values.specs.declared.State.{State}
use Rattle.values.specs.Out.{cells}
use Rattle.values.specs.Carries.{slots_of, Carries, AllWithin, Grows, numbered}
use Rattle.values.specs.Grow.{to_last_s, hang_s}
use Rattle.values.specs.Doc.{Doc, settle_s, path_by, lines_s, empty, document_s}
use Rattle.toml_lite.specs.declared.Progress.{Progress}

-- so many values made, so many bytes used, and the place where assignments go
abbrev pub progress_at : ℕ → ℕ → ℕ → Progress
progress_at made used here = record { st = record { used = used; made = made }; here = here }

-- the document that the rooms hold
abbrev pub doc_of : List ℕ → List ℕ → State → ℕ → Doc
doc_of store tree st here = record { bytes = take st.used store; slots = slots_of tree st.made; here = here }

-- value number n hung up under a key
unfoldable pub hang_k : Limits → List ℕ → ℕ → Doc → R Doc
hang_k limits k n d =
    path_by d.bytes (keys limits.segments k)
    (λ bytes ks. settle_s bytes (to_last_s limits.values bytes (hang_s n) ks d.slots d.here) (λ _. d.here))

-- what the rooms hold between lines: values whose keys lie in the bytes used
pub record Holding (limits : Limits) (store tree : List ℕ) (st : State) : Type 0 where
  pub grows : Grows limits.values tree st.made
  pub within : AllWithin st.used (slots_of tree st.made)
  pub fits : st.used ≤ length store
  pub segs : limits.segments ≤ 16

-- and room for n bytes more
pub record Taking (limits : Limits) (n : ℕ) (store tree : List ℕ) (st : State) : Type 0 where
  pub holding : Holding limits store tree st
  pub room : st.used + n ≤ length store
  pub low : st.used + n < 65536

-- and value number n is made
pub record Hanging (limits : Limits) (n : ℕ) (store tree : List ℕ) (st : State) (number : ℕ) : Type 0 where
  pub taking : Taking limits n store tree st
  pub below : number < st.made

-- an accepted line leaves its document at the head of both rooms, and the rest of them as it was; n bytes add at most n
pub record Wrote (limits : Limits) (n : ℕ) (store tree store' tree' : List ℕ) (st : State) (d : Doc) : Type 0 where
  pub store_is : store' ≡ over d.bytes store
  pub tree_is : tree' ≡ over (cells d.slots) tree
  pub carried : Carries tree' d.slots
  pub within : AllWithin (length d.bytes) d.slots
  pub more : st.used ≤ length d.bytes
  pub short : length d.bytes ≤ st.used + n
  pub grew : st.made ≤ length d.slots
  pub most : length d.slots ≤ limits.values

-- a refused one may leave anything
abbrev pub Kept : Limits → ℕ → List ℕ → List ℕ → List ℕ → List ℕ → State → R Doc → Type 0
Kept limits n store tree store' tree' st (ok d) = Wrote limits n store tree store' tree' st d
Kept limits n store tree store' tree' st (bad f) = Unit

-- what the code answers to it
abbrev pub line_of : R Doc → R Progress
line_of (ok d) = ok (progress_at (length d.slots) (length d.bytes) d.here)
line_of (bad n) = bad n

-- what reading n bytes that mean m leaves
pub record Lined (limits : Limits) (n : ℕ) (store tree store' tree' : List ℕ) (st : State) (m : R Doc) (r : Result Progress Refused) : Type 0 where
  pub says : numbered r ≡ line_of m
  pub store_long : length store' ≡ length store
  pub tree_long : length tree' ≡ length tree
  pub kept : Kept limits n store tree store' tree' st m

-- ---- all lines
-- the state of empty rooms
abbrev pub start : State
start = record { used = 0; made = 0 }

-- what the joined lines of a laid text mean
abbrev pub whole_of : Limits → List ℕ → Answer Doc
whole_of limits s = accepted_then (join closed 1 (lines_of s)) (λ ls. lines_s limits ls (empty limits))

-- a place after a line
pub record AfterLine (s : List ℕ) (p : Place) (line : ℕ) : Type 0 where
  pub place : Between s p.at p.line
  pub number : line ≤ length s + 1

-- a line's fault, where the lines after it have no 3 and no 4
abbrev pub fault_after : List ℕ → Place → ℕ → ℕ → Answer Doc
fault_after s p number line = accepted_then (join closed p.line (lines_of (drop p.at s))) (λ _. at_line number line)

-- the rooms take the text: the last LF of a laid text is in no line
pub record Begun (limits : Limits) (s store tree : List ℕ) : Type 0 where
  pub holding : Holding limits store tree start
  pub room : length s ≤ length store + 1
  pub low : length s < 65536

-- what the code is to answer
abbrev pub read_of : Answer Doc → Answer State
read_of (accepted d) = accepted (record { used = length d.bytes; made = length d.slots })
read_of (refused f section line) = at_line (number_of f) line

-- no number of an answer is large
abbrev pub Small : ℕ → Result State AtLine → Type 0
Small n (Ok st) = (st.used ≤ n) × (st.made ≤ 65000)
Small n (Err e) = e.line ≤ n + 1

-- a refusal is told of a text, not of an entry
abbrev pub OfText : Answer Doc → Type 0
OfText (accepted d) = Unit
OfText (refused f section line) = section ≡ in_text

-- what is said of n bytes that mean m
pub record Told (n : ℕ) (m : Answer Doc) (r : Result State AtLine) : Type 0 where
  pub says : answer_of r ≡ read_of m
  pub small : Small n r
  pub text : OfText m

abbrev pub KeptAll : Limits → ℕ → List ℕ → List ℕ → List ℕ → List ℕ → Answer Doc → Type 0
KeptAll limits n store tree store' tree' (accepted d) = Wrote limits n store tree store' tree' start d
KeptAll limits n store tree store' tree' (refused f section line) = Unit

-- what reading all lines of n bytes that mean m leaves
pub record Reads (limits : Limits) (n : ℕ) (store tree store' tree' : List ℕ) (m : Answer Doc) (r : Result State AtLine) : Type 0 where
  pub told : Told n m r
  pub store_long : length store' ≡ length store
  pub tree_long : length tree' ≡ length tree
  pub kept : KeptAll limits n store tree store' tree' m

-- what the two rooms hold after a text that means m; a refusal: "all lent rooms then hold zero"
abbrev pub store_of : List ℕ → Answer Doc → List ℕ
store_of store (accepted d) = over d.bytes store
store_of store (refused f section line) = zeros (length store)

abbrev pub tree_of : List ℕ → Answer Doc → List ℕ
tree_of tree (accepted d) = over (cells d.slots) tree
tree_of tree (refused f section line) = zeros (length tree)

-- an accepted text's values stand in the room as they were made
abbrev pub Carried : List ℕ → Answer Doc → Type 0
Carried tree' (accepted d) = Carries tree' d.slots
Carried tree' (refused f section line) = Unit

pub record Cleared (store tree store' tree' : List ℕ) (m : Answer Doc) (r : Result State AtLine) : Type 0 where
  pub told : Told 65536 m r
  pub store_is : store' ≡ store_of store m
  pub tree_is : tree' ≡ tree_of tree m
  pub carried : Carried tree' m

-- the bytes of the values that a document has, one value after the other
abbrev pub cells_of : Answer Doc → List ℕ
cells_of (accepted d) = cells d.slots
cells_of (refused f section line) = []

-- and of those that reading a text makes
abbrev pub values_of : List ℕ → List ℕ
values_of s = cells_of (document_s of01 s)

-- ---- whole texts
-- both rooms are empty, and large enough for every text within the limits; the scratch takes one of n bytes
pub record Ready (limits : Limits) (n : ℕ) (scratch store tree : List ℕ) : Type 0 where
  pub fits : n ≤ limits.text → n < length scratch
  pub store_fits : limits.text ≤ length store
  pub tree_fits : 32 * limits.values ≤ length tree
  pub few : limits.values < 65000
  pub segs : limits.segments ≤ 16
  pub low : limits.text < 65535
  pub store_empty : store ≡ zeros (length store)
  pub tree_empty : tree ≡ zeros (length tree)

-- a text within 01's limit that is laid as it stands
pub record Standing (s : List ℕ) : Type 0 where
  pub fits : length s ≤ 32768
  pub well : true ≡ valid s
  pub is : laid s ≡ s

-- both rooms hold only zeros
pub record Empty (store tree : List ℕ) : Type 0 where
  pub store_empty : store ≡ zeros (length store)
  pub tree_empty : tree ≡ zeros (length tree)

-- and are large enough for every text within 01's limits
pub record Roomy (store tree : List ℕ) : Type 0 where
  pub store_fits : 32768 ≤ length store
  pub tree_fits : 65536 ≤ length tree
  pub empty : Empty store tree

-- both rooms take every text within 01's limits
unfoldable pub suffice : ℕ → ℕ → Bool
suffice store tree = pick (ltb store 32768) false (pick (ltb tree 65536) false true)

-- 17: "a lent room is too small", before all else
unfoldable pub judged : List ℕ → ℕ → ℕ → Answer Doc
judged s store tree = pick (suffice store tree) (document_s of01 s) (at_no_line 17)

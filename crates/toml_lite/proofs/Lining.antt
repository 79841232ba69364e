-- A line by its form: one law for each way out.
use Prim.Native.Nat.{ℕ, suc, ◌+◌, ◌-◌, ◌≤◌, ◌<◌}
use mathlib.Core.List.{List}
use mathlib.Core.Path.{◌≡◌, refl, sym, ap, ◌∙◌}
use native.Mathlib.Omega.{arith}
use native.Mathlib.Numerals.{add-one}
use lib.ListN.{length, take, drop, length-drop}
use lib.Seq.{length-take-le}
use Rattle.std.specs.Prelude.{Option, Some, None, Result, Err}
use Rattle.meaning.specs.declared.Limits.{Limits}
use Rattle.meaning.specs.declared.Refused.{Refused}
use Rattle.meaning.specs.declared.Refused.TheVariants.{NoForm}
use Rattle.meaning.specs.Refusal.{R, ok, bad}
use Rattle.meaning.specs.Space.{trim}
use Rattle.meaning.specs.Document as meant
use Rattle.laws.specs.Parts.{rest_of}
use Rattle.chars.specs.Trimmed.{Trimmed}
use Rattle.chars.specs.declared.Span.{Span}
use Rattle.values.specs.declared.State.{State}
use Rattle.values.specs.declared.form.Form.{Form}
use Rattle.values.specs.declared.form.Form.TheVariants.{Pushes, Heads, Sets}
use Rattle.values.specs.Forms.{Formed}
use Rattle.values.specs.Doc.{Doc, set_s, line_s}
use Rattle.toml_lite.specs.declared.Progress.{Progress}
use Rattle.toml_lite.specs.Rooms.{doc_of, Lined}

-- ---- more bytes
pub lined_more : (limits : Limits) (n k : ℕ) (store tree store' tree' : List ℕ) (st : State) (m : R Doc) (r : Result Progress Refused) → n ≤ k
    → Lined limits n store tree store' tree' st m r → Lined limits k store tree store' tree' st m r
lined_more limits n k store tree store' tree' st (ok d) r l h =
    record {
      says = h.says;
      store_long = h.store_long;
      tree_long = h.tree_long;
      kept = record {
        store_is = h.kept.store_is;
        tree_is = h.kept.tree_is;
        carried = h.kept.carried;
        within = h.kept.within;
        more = h.kept.more;
        short = omega (arith, h.kept.short);
        grew = h.kept.grew;
        most = h.kept.most;
      };
    }
lined_more limits n k store tree store' tree' st (bad f) r l h =
    record { says = h.says; store_long = h.store_long; tree_long = h.tree_long; kept = tt }

-- ---- assignment
assignment_done_by : (limits : Limits) (n : ℕ) (k v store tree store' tree' : List ℕ) (st : State) (here : ℕ) (r : Result Progress Refused) (t : Span) → Trimmed k t → n ≤ length k + length v
    → Lined limits n store tree store' tree' st (set_s limits (take (t.end - t.from) (drop t.from k)) v (doc_of store tree st here)) r
    → Lined limits (length k + length v) store tree store' tree' st (line_s limits (meant.sets k v) (doc_of store tree st here)) r
unfolding line_s
assignment_done_by limits n k v store tree store' tree' st here r t h l a =
    lined_more limits n (length k + length v) store tree store' tree' st (set_s limits (trim k) v (doc_of store tree st here)) r l (rw h.is at a)

-- ---- read_line
line_done_by : (limits : Limits) (n : ℕ) (l store tree store' tree' : List ℕ) (st : State) (here : ℕ) (r : Result Progress Refused) (t : Span) → Trimmed l t → n ≤ length l
    → Lined limits n store tree store' tree' st (line_s limits (meant.form (take (t.end - t.from) (drop t.from l))) (doc_of store tree st here)) r
    → Lined limits (length l) store tree store' tree' st (line_s limits (meant.form (trim l)) (doc_of store tree st here)) r
line_done_by limits n l store tree store' tree' st here r t h m a =
    lined_more limits n (length l) store tree store' tree' st (line_s limits (meant.form (trim l)) (doc_of store tree st here)) r m (rw h.is at a)

part_short : (k : List ℕ) (t : Span) → Trimmed k t → length (take (t.end - t.from) (drop t.from k)) ≤ length k
part_short k t h = omega (arith, length-take-le (t.end - t.from) (drop t.from k) (omega (arith, length-drop t.from k, h.high)), h.high)

module _ (limits : Limits) (k v store tree store' tree' : List ℕ) (st : State) (here : ℕ) (r : Result Progress Refused) (t : Span) (h : Trimmed k t) where
  pub assignment_done : Lined limits (t.end - t.from + length v) store tree store' tree' st (set_s limits (take (t.end - t.from) (drop t.from k)) v (doc_of store tree st here)) r
      → Lined limits (length k + length v) store tree store' tree' st (line_s limits (meant.sets k v) (doc_of store tree st here)) r
  assignment_done a = assignment_done_by limits (t.end - t.from + length v) k v store tree store' tree' st here r t h (omega (arith, h.high)) a

  pub assignment_does : Lined limits (length (take (t.end - t.from) (drop t.from k)) + length v) store tree store' tree' st (set_s limits (take (t.end - t.from) (drop t.from k)) v (doc_of store tree st here)) r
      → Lined limits (length k + length v) store tree store' tree' st (line_s limits (meant.sets k v) (doc_of store tree st here)) r
  assignment_does a = assignment_done_by limits (length (take (t.end - t.from) (drop t.from k)) + length v) k v store tree store' tree' st here r t h (omega (arith, part_short k t h)) a

module _ (limits : Limits) (l store tree store' tree' : List ℕ) (st : State) (here : ℕ) (r : Result Progress Refused) (t : Span) (h : Trimmed l t) where
  pub line_done : Lined limits (t.end - t.from) store tree store' tree' st (line_s limits (meant.form (take (t.end - t.from) (drop t.from l))) (doc_of store tree st here)) r
      → Lined limits (length l) store tree store' tree' st (line_s limits (meant.form (trim l)) (doc_of store tree st here)) r
  line_done a = line_done_by limits (t.end - t.from) l store tree store' tree' st here r t h (omega (arith, h.high)) a

  pub line_does : Lined limits (length (take (t.end - t.from) (drop t.from l))) store tree store' tree' st (line_s limits (meant.form (take (t.end - t.from) (drop t.from l))) (doc_of store tree st here)) r
      → Lined limits (length l) store tree store' tree' st (line_s limits (meant.form (trim l)) (doc_of store tree st here)) r
  line_does a = line_done_by limits (length (take (t.end - t.from) (drop t.from l))) l store tree store' tree' st here r t h (part_short l t h) a

-- ---- read_form
module _ (l : List ℕ) (o : Option Form) (h : Formed l o) (f : Form) (some : o ≡ Some f) where
  pushes_in : f ≡ Pushes → 4 ≤ length l
  pushes_in e = rw (some, e) at h.inside

  heads_in : f ≡ Heads → 2 ≤ length l
  heads_in e = rw (some, e) at h.inside

  module _ (at : ℕ) (e : f ≡ Sets at) where
    sets_under : at < length l
    sets_under = rw (some, e) at h.inside

    pub sets_in : at + 1 ≤ length l
    sets_in = omega (arith, sets_under)

    pub sets_part : at ≡ length (take at l)
    sets_part = sym (length-take-le at l (omega (arith, sets_under)))

    sets_size : length (take at l) + length (take (length l - (at + 1)) (drop (at + 1) l)) ≤ length l
    sets_size = omega (arith, sets_part, ap length (rest_of l (at + 1)), length-drop (at + 1) l, sets_under)

  module _ (limits : Limits) (store tree store' tree' : List ℕ) (st : State) (here : ℕ) (r : Result Progress Refused) where
    abbrev Done : ℕ → meant.Form → ℕ → Type 0
    Done n g p = Lined limits n store tree store' tree' st (line_s limits g (doc_of store tree st p)) r

    pushes_done_by : (n : ℕ) → f ≡ Pushes → n ≤ length l
        → Lined limits n store tree store' tree' st (line_s limits (meant.pushes (take (length l - 2 - 2) (drop 2 l))) (doc_of store tree st 1)) r
        → Lined limits (length l) store tree store' tree' st (line_s limits (meant.form l) (doc_of store tree st here)) r
    unfolding line_s
    pushes_done_by n e m a =
        let k : length l - 2 - 2 ≡ length l - 4 = omega arith in
        let b : meant.pushes (take (length l - 4) (drop 2 l)) ≡ meant.form l = rw (some, e) at h.is in
        lined_more limits n (length l) store tree store' tree' st (line_s limits (meant.form l) (doc_of store tree st here)) r m (rw (← b) (rw k at a))

    heads_done_by : (n : ℕ) → f ≡ Heads → n ≤ length l
        → Lined limits n store tree store' tree' st (line_s limits (meant.heads (take (length l - 1 - 1) (drop 1 l))) (doc_of store tree st 1)) r
        → Lined limits (length l) store tree store' tree' st (line_s limits (meant.form l) (doc_of store tree st here)) r
    unfolding line_s
    heads_done_by n e m a =
        let k : length l - 1 - 1 ≡ length l - 2 = omega arith in
        let b : meant.heads (take (length l - 2) (drop 1 l)) ≡ meant.form l = rw (some, e) at h.is in
        lined_more limits n (length l) store tree store' tree' st (line_s limits (meant.form l) (doc_of store tree st here)) r m (rw (← b) (rw k at a))

    pub pushes_done : f ≡ Pushes → Lined limits (length l - 2 - 2) store tree store' tree' st (line_s limits (meant.pushes (take (length l - 2 - 2) (drop 2 l))) (doc_of store tree st 1)) r
        → Lined limits (length l) store tree store' tree' st (line_s limits (meant.form l) (doc_of store tree st here)) r
    pushes_done e a = pushes_done_by (length l - 2 - 2) e (omega arith) a

    pub pushes_does : f ≡ Pushes → Lined limits (length (take (length l - 2 - 2) (drop 2 l))) store tree store' tree' st (line_s limits (meant.pushes (take (length l - 2 - 2) (drop 2 l))) (doc_of store tree st 1)) r
        → Lined limits (length l) store tree store' tree' st (line_s limits (meant.form l) (doc_of store tree st here)) r
    pushes_does e a = pushes_done_by (length (take (length l - 2 - 2) (drop 2 l))) e (omega (arith, length-take-le (length l - 2 - 2) (drop 2 l) (omega (arith, length-drop 2 l)))) a

    pub heads_done : f ≡ Heads → Lined limits (length l - 1 - 1) store tree store' tree' st (line_s limits (meant.heads (take (length l - 1 - 1) (drop 1 l))) (doc_of store tree st 1)) r
        → Lined limits (length l) store tree store' tree' st (line_s limits (meant.form l) (doc_of store tree st here)) r
    heads_done e a = heads_done_by (length l - 1 - 1) e (omega arith) a

    pub heads_does : f ≡ Heads → Lined limits (length (take (length l - 1 - 1) (drop 1 l))) store tree store' tree' st (line_s limits (meant.heads (take (length l - 1 - 1) (drop 1 l))) (doc_of store tree st 1)) r
        → Lined limits (length l) store tree store' tree' st (line_s limits (meant.form l) (doc_of store tree st here)) r
    heads_does e a = heads_done_by (length (take (length l - 1 - 1) (drop 1 l))) e (omega (arith, length-take-le (length l - 1 - 1) (drop 1 l) (omega (arith, length-drop 1 l)))) a

    module _ (at : ℕ) (e : f ≡ Sets at) where
      sets_by : (n : ℕ) → n ≤ length l
          → Lined limits n store tree store' tree' st (line_s limits (meant.sets (take at l) (take (length l - (at + 1)) (drop (at + 1) l))) (doc_of store tree st here)) r
          → Lined limits (length l) store tree store' tree' st (line_s limits (meant.form l) (doc_of store tree st here)) r
      sets_by n m a =
          let b : meant.sets (take at l) (drop (suc at) l) ≡ meant.form l = rw (some, e) at h.is in
          let c : meant.sets (take at l) (take (length l - (at + 1)) (drop (at + 1) l)) ≡ meant.form l =
          ap (meant.sets (take at l)) (rest_of l (at + 1) ∙ ap (λ (i : ℕ). drop i l) (add-one at)) ∙ b in
          lined_more limits n (length l) store tree store' tree' st (line_s limits (meant.form l) (doc_of store tree st here)) r m (rw c at a)

      pub sets_done : Lined limits (at + (length l - (at + 1))) store tree store' tree' st (line_s limits (meant.sets (take at l) (take (length l - (at + 1)) (drop (at + 1) l))) (doc_of store tree st here)) r
          → Lined limits (length l) store tree store' tree' st (line_s limits (meant.form l) (doc_of store tree st here)) r
      sets_done a = sets_by (at + (length l - (at + 1))) (omega (arith, sets_in at e)) a

      pub sets_does : Lined limits (length (take at l) + length (take (length l - (at + 1)) (drop (at + 1) l))) store tree store' tree' st (line_s limits (meant.sets (take at l) (take (length l - (at + 1)) (drop (at + 1) l))) (doc_of store tree st here)) r
          → Lined limits (length l) store tree store' tree' st (line_s limits (meant.form l) (doc_of store tree st here)) r
      sets_does a = sets_by (length (take at l) + length (take (length l - (at + 1)) (drop (at + 1) l))) (sets_size at e) a

module _ (l : List ℕ) (o : Option Form) (h : Formed l o) where
  pub neither_done : (limits : Limits) (store tree : List ℕ) (st : State) (here : ℕ) → o ≡ None
      → Lined limits (length l) store tree store tree st (line_s limits (meant.form l) (doc_of store tree st here)) (Err NoForm)
  unfolding line_s
  neither_done limits store tree st here e =
      let b : meant.neither ≡ meant.form l = rw e at h.is in
      rw (← b) (record { says = refl; store_long = refl; tree_long = refl; kept = tt })

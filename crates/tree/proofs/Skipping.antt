-- Values passed over several at a time: what each loop keeps, one law for each way on and out of it, and that no search misses them.
use Prim.Native.Nat.{ℕ, zero, suc, ◌+◌, ◌-◌, ◌≤◌, ◌<◌}
use mathlib.Core.Bool.{Bool, true, false}
use mathlib.Core.List.{List}
use mathlib.Core.Path.{◌≡◌, refl, sym, ◌∙◌}
use native.Mathlib.Omega.{arith}
use native.Mathlib.Nat.{add-zero}
use borrow.Author.Tests.{ltb-true, ltb-false}
use lib.Dec.{ltb}
use Rattle.laws.specs.Cases.{on, never}
use Rattle.std.specs.Prelude.{Option, Some, None, is_some}
use Rattle.std.specs.Option.{option_or}
use Rattle.tree.specs.Room.{Holds, Clear, Finds, under, mine, idle, first, child, look}
use Rattle.tree.specs.Doors.{newest, look_in}
use Rattle.tree.proofs.Walks.{Walking, mine_not}
use Rattle.tree.proofs.Opening.{Sinking}

-- ---- idle
pub record Idling (tree : List ℕ) (n parent k : ℕ) : Type 0 where
  pub high : k ≤ 8
  pub left : idle tree parent (8 - k) (n + k) ≡ idle tree parent 8 n

module _ (tree : List ℕ) (n parent : ℕ) where
  pub idle_start : Idling tree n parent 0
  idle_start = record { high = omega arith; left = rw (add-zero n) }

  module _ (k : ℕ) (a : Idling tree n parent k) where
    pub idle_room : Holds tree (n + 8) → k < 8 → Holds tree (n + k + 1)
    idle_room h l = record { fits = omega (arith, h.fits) }

    pub idle_end : 8 ≤ k → true ≡ idle tree parent 8 n
    idle_end l = let d : 8 - k ≡ 0 = omega arith in rw d at a.left

    module _ (r : Bool) (l : k < 8) (e : r ≡ under tree (n + k) parent) where
      step : 8 - k ≡ suc (8 - (k + 1))
      step = omega arith

      pub idle_on : r ≡ false → Idling tree n parent (k + 1)
      idle_on t =
          let d : n + (k + 1) ≡ n + k + 1 = omega arith in
          record { high = omega arith; left = rw d (rw (step, ← e, t) at a.left) }

      pub idle_hit : r ≡ true → false ≡ idle tree parent 8 n
      idle_hit t = rw (step, ← e, t) at a.left

-- ---- no value passed over has the parent
module _ (tree : List ℕ) (parent : ℕ) where
  clear_none : (n : ℕ) → Clear tree parent n n
  clear_none n = record { order = omega arith; none = λ (j : ℕ). λ (h : n ≤ j). λ (l : j < n). absurd (omega arith) }

  clear_both : (a b c : ℕ) → Clear tree parent a b → Clear tree parent b c → Clear tree parent a c
  clear_both a b c p q = record { order = omega (arith, p.order, q.order); none = go }
    where
      go : (j : ℕ) → a ≤ j → j < c → under tree j parent ≡ false
      go j h l = on (ltb j b) (λ t. p.none j h (ltb-true j b t)) (λ t. q.none j (ltb-false j b t) l)

  clear_idle : (k i j : ℕ) → idle tree parent k i ≡ true → i ≤ j → j < i + k → under tree j parent ≡ false
  clear_idle zero i j e h l = absurd (omega arith)
  clear_idle (suc k) i j e h l =
      on (under tree i parent)
      (λ p. never {b = false} (rw p at e) refl)
      (λ p.
      on (ltb i j)
      (λ t. clear_idle k (i + 1) j (rw p at e) (omega (arith, ltb-true i j t)) (omega arith))
      (λ t. let q : j ≡ i = omega (arith, ltb-false i j t) in rw q p))

  clear_block : (n m : ℕ) → m ≡ n + 8 → idle tree parent 8 n ≡ true → Clear tree parent n m
  clear_block n m d e = record { order = omega arith; none = λ (j : ℕ). λ (h : n ≤ j). λ (l : j < m). clear_idle 8 n j e h (omega arith) }

-- ---- skip_up
pub record Rising (tree : List ℕ) (made parent from n : ℕ) : Type 0 where
  pub high : n ≤ made
  pub clear : Clear tree parent from n

module _ (tree : List ℕ) (made parent from : ℕ) where
  pub rise_not : Clear tree parent from from
  rise_not = clear_none tree parent from

  pub rise_start : from ≤ made → Rising tree made parent from from
  rise_start l = record { high = l; clear = rise_not }

  module _ (n : ℕ) (a : Rising tree made parent from n) where
    pub rise_room : Holds tree made → 8 ≤ made - n → Holds tree (n + 8)
    rise_room h l = record { fits = omega (arith, h.fits) }

    pub rise_on : (r : Bool) → 8 ≤ made - n → r ≡ idle tree parent 8 n → r ≡ true → Rising tree made parent from (n + 8)
    rise_on r l e t =
        record { high = omega arith; clear = clear_both tree parent from n (n + 8) a.clear (clear_block tree parent n (n + 8) refl (sym e ∙ t)) }

-- ---- skip_down
module _ (tree : List ℕ) (made parent : ℕ) where
  pub fall_start : Clear tree parent made made
  fall_start = clear_none tree parent made

  module _ (i : ℕ) (a : Clear tree parent i made) where
    pub fall_room : Holds tree made → 8 ≤ i → Holds tree (i - 8 + 8)
    fall_room h l = record { fits = omega (arith, h.fits, a.order) }

    pub fall_on : (r : Bool) → 8 ≤ i → r ≡ idle tree parent 8 (i - 8) → r ≡ true → Clear tree parent (i - 8) made
    fall_on r l e t = clear_both tree parent (i - 8) i made (clear_block tree parent (i - 8) i (omega arith) (sym e ∙ t)) a

-- ---- the searches
module _ (tree : List ℕ) (parent : ℕ) where
  first_over : (k i d : ℕ) → ((j : ℕ) → i ≤ j → j < i + d → under tree j parent ≡ false) → first tree parent (k - d) (i + d) ≡ first tree parent k i
  first_over k i zero h = let e : k - 0 ≡ k = omega arith in rw (e, add-zero i)
  first_over zero i (suc d) h = let e : 0 - suc d ≡ 0 = omega arith in rw e
  first_over (suc k) i (suc d) h =
      let e : suc k - suc d ≡ k - d = omega arith in
      let f : i + suc d ≡ i + 1 + d = omega arith in
      rw (h i (omega arith) (omega arith), e, f) (first_over k (i + 1) d (λ (j : ℕ). λ (g : i + 1 ≤ j). λ (l : j < i + 1 + d). h j (omega arith) (omega arith)))

  newest_over : (i d : ℕ) → ((j : ℕ) → i ≤ j → j < i + d → under tree j parent ≡ false) → newest tree (i + d) parent ≡ newest tree i parent
  newest_over i zero h = rw (add-zero i)
  newest_over i (suc d) h =
      let f : i + suc d ≡ suc (i + d) = omega arith in
      rw (f, h (i + d) (omega arith) (omega arith)) (newest_over i d (λ (j : ℕ). λ (g : i ≤ j). λ (l : j < i + d). h j g (omega arith)))

-- child begins after them
pub walk_skipped : (tree : List ℕ) (made parent from n : ℕ) → Clear tree parent from n → Walking tree made parent from n
unfolding child
walk_skipped tree made parent from n c =
    let d : ℕ = n - from in
    let e : from + d ≡ n = omega (arith, c.order) in
    let f : made - from - d ≡ made - n = omega (arith, c.order) in
    record {
      low = c.order;
      left = rw (e, f) at (first_over tree parent (made - from) from d (λ (j : ℕ). λ (h : from ≤ j). λ (l : j < from + d). c.none j h (omega arith)));
    }

-- newest begins below them
pub sink_skipped : (tree : List ℕ) (made parent i : ℕ) → Clear tree parent i made → Sinking tree made parent i
sink_skipped tree made parent i c =
    let d : ℕ = made - i in
    let e : i + d ≡ made = omega (arith, c.order) in
    record {
      high = c.order;
      left = sym (rw e at (newest_over tree parent i d (λ (j : ℕ). λ (h : i ≤ j). λ (l : j < i + d). c.none j h (omega arith))));
    }

-- ---- seek_block
module _ (tree store key : List ℕ) (parent : ℕ) where
  seek_clear : (k i : ℕ) → ((j : ℕ) → i ≤ j → j < i + k → under tree j parent ≡ false) → look_in tree store i k parent key ≡ None
  seek_clear zero i h = refl
  seek_clear (suc k) i h =
      rw (sym (mine_not tree store key (i + k) parent false (sym (h (i + k) (omega arith) (omega arith))) refl))
      (seek_clear k i (λ (j : ℕ). λ (g : i ≤ j). λ (l : j < i + k). h j g (omega arith)))

  pub seek_idle : (i : ℕ) (r : Bool) → r ≡ idle tree parent 8 i → r ≡ true → Finds i (i + 8) (look_in tree store i 8 parent key) None
  seek_idle i r e t =
      record { is = sym (seek_clear 8 i (λ (j : ℕ). λ (h : i ≤ j). λ (l : j < i + 8). clear_idle tree parent 8 i j (sym e ∙ t) h l)); from = tt; below = tt }

  pub seek_eight : (i : ℕ) (r : Option ℕ) → Finds i (i + 8) (look_in tree store i (i + 8 - i) parent key) r → Finds i (i + 8) (look_in tree store i 8 parent key) r
  seek_eight i r h = let d : i + 8 - i ≡ 8 = omega arith in rw d at h

-- ---- find
pub record Looking (tree store key : List ℕ) (made parent i : ℕ) : Type 0 where
  pub high : i ≤ made
  pub left : look tree store i parent key ≡ look tree store made parent key

-- nothing after it
none_left : (r : Option ℕ) → option_or r None ≡ r
none_left (Some n) = refl
none_left None = refl

module _ (tree store key : List ℕ) (parent : ℕ) where
  look_seek : (k i : ℕ) → look tree store (i + k) parent key ≡ option_or (look_in tree store i k parent key) (look tree store i parent key)
  look_seek zero i = rw (add-zero i)
  look_seek (suc k) i =
      let d : i + suc k ≡ suc (i + k) = omega arith in
      rw d (on (mine tree store (i + k) parent key) (λ e. rw e) (λ e. rw e (look_seek k i)))

module _ (tree store key : List ℕ) (made parent : ℕ) where
  pub look_start : Looking tree store key made parent made
  look_start = record { high = omega arith; left = refl }

  module _ (i : ℕ) (k : Looking tree store key made parent i) where
    pub look_room : Holds tree made → 8 ≤ i → Holds tree (i - 8 + 8)
    look_room h l = record { fits = omega (arith, h.fits, k.high) }

    module _ (r : Option ℕ) (h : Finds (i - 8) (i - 8 + 8) (look_in tree store (i - 8) 8 parent key) r) (l : 8 ≤ i) where
      both : look tree store i parent key ≡ option_or r (look tree store (i - 8) parent key)
      both =
          let d : i - 8 + 8 ≡ i = omega arith in
          rw (d, ← h.is) at (look_seek tree store key parent 8 (i - 8))

      pub look_on : r ≡ None → Looking tree store key made parent (i - 8)
      look_on e = record { high = omega (arith, k.high); left = sym (rw e at both) ∙ k.left }

      pub look_hit : (q : Bool) → q ≡ is_some r → q ≡ true → Finds 0 made (look tree store made parent key) r
      look_hit q d t = by r h both (sym d ∙ t)
        where
          by : (p : Option ℕ) → Finds (i - 8) (i - 8 + 8) (look_in tree store (i - 8) 8 parent key) p
              → look tree store i parent key ≡ option_or p (look tree store (i - 8) parent key) → is_some p ≡ true → Finds 0 made (look tree store made parent key) p
          by None g b e = never {b = false} e refl
          by (Some n) g b e = record { is = sym b ∙ k.left; from = omega arith; below = omega (arith, g.below, k.high) }

    pub look_few : Holds tree made → Holds tree i
    look_few h = record { fits = omega (arith, h.fits, k.high) }

    pub look_end : (r : Option ℕ) → Finds 0 i (look_in tree store 0 (i - 0) parent key) r → Finds 0 made (look tree store made parent key) r
    look_end r h = by r h
      where
        d : i - 0 ≡ i
        d = omega arith

        whole : look tree store i parent key ≡ look_in tree store 0 i parent key
        whole =
            let z : 0 + i ≡ i = omega arith in
            rw z at (look_seek tree store key parent i 0) ∙ none_left (look_in tree store 0 i parent key)

        by : (q : Option ℕ) → Finds 0 i (look_in tree store 0 (i - 0) parent key) q → Finds 0 made (look tree store made parent key) q
        by None g = record { is = rw d at g.is ∙ sym whole ∙ k.left; from = tt; below = tt }
        by (Some n) g =
            let b : n < i = g.below in
            record { is = rw d at g.is ∙ sym whole ∙ k.left; from = omega arith; below = omega (arith, k.high) }

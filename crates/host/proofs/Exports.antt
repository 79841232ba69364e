-- The exports of the text layer: one law for each way out.
use Rattle.std.specs.Prelude.{None, Some, Result, Ok, Err}
use Prim.Native.Nat.{ℕ, ◌+◌, ◌≤◌, ◌<◌}
use mathlib.Core.List.{List}
use mathlib.Core.Path.{◌≡◌, refl, sym, ap, ◌∙◌}
use native.Mathlib.Omega.{arith}
use borrow.Author.Tests.{lt-ltb, le-ltb}
use lib.Dec.{ltb}
use lib.ListN.{length}
use Rattle.meaning.specs.declared.Limits.{Limits}
use Rattle.meaning.specs.Base.{zeros}
use Rattle.meaning.specs.Limits.{of01}
use Rattle.meaning.specs.Numbered.{number}
use Rattle.meaning.specs.Refusal.{accepted, at_line}
use Rattle.meaning.specs.Utf8.{valid}
use Rattle.meaning.specs.Lines as meant
use Rattle.laws.specs.Cases.{on}
use Rattle.slices.proofs.Zeroing.{length_zeros}
use Rattle.text.specs.declared.JoinedLine.{JoinedLine}
use Rattle.text.specs.declared.Laid.{Laid}
use Rattle.text.specs.declared.AtLine.{AtLine}
use Rattle.text.specs.Laid.{laid, over}
use Rattle.text.specs.Walk.{Next, next, Follows}
use Rattle.text.specs.Answers.{answer_of, measured, Reads}
use Rattle.host.specs.declared.Lines.{Lines}
use Rattle.host.specs.declared.Line.{Line}
use Rattle.host.specs.Text.{no_line, line_of, refused_at, judged, Exported}

-- ---- preset_text_next
module _ (s : List ℕ) (at n : ℕ) (r : Next) (f : Follows s at n r) where
  told : (v : Next) (k : Line) → r ≡ v → k ≡ line_of v → k ≡ line_of (next s at n)
  told v k e h = h ∙ ap line_of (sym e ∙ f.is)

  pub end_told : (k : Line) → r ≡ Ok None → k ≡ no_line 0 0 → k ≡ line_of (next s at n)
  end_told = told (Ok None)

  pub refused_told : (u : AtLine) (m : ℕ) (k : Line) → r ≡ Err u → m ≡ number u.refused → k ≡ no_line m u.line → k ≡ line_of (next s at n)
  refused_told u m k e q h = told (Err u) k e (h ∙ ap (λ (x : ℕ). no_line x u.line) q)

  pub line_told : (l : JoinedLine) → r ≡ Ok (Some l) → line_of (Ok (Some l)) ≡ line_of (next s at n)
  line_told l e = told (Ok (Some l)) (line_of (Ok (Some l))) e refl

-- ---- preset_text_lines: z is the room once it is zero
module _ (s room z : List ℕ) (ez : z ≡ zeros (length room)) where
  long : length z ≡ length room
  long = ap length ez ∙ length_zeros (length room)

  pub too_small : (r : Lines) → length z < 32769 → r ≡ refused_at 17 0 → Exported s room z r
  too_small r h e =
      let k : length room < 32769 = omega (arith, long) in
      record { says = e ∙ rw (lt-ltb (length room) 32769 k); left = rw (lt-ltb (length room) 32769 k) ez }

  -- the room is large enough, so the text decides
  module _ (h : 32769 ≤ length z) (lim : Limits) (el : lim ≡ of01) (room' : List ℕ) (v : Result Laid AtLine) (k : Reads lim s z room' v) where
    reads : Reads of01 s (zeros (length room)) room' v
    reads = rw (el, ez) at k

    judged_is : judged s room ≡ answer_of v
    judged_is = let m : 32769 ≤ length room = omega (arith, long) in rw (le-ltb (length room) 32769 m) (sym reads.says)

    -- an accepted text is laid
    laid_there : (c : Laid) → measured (length (laid s)) (meant.lines of01 s) ≡ accepted c → room' ≡ over (laid s) (zeros (length room))
    unfolding meant.lines
    laid_there c e =
        on (ltb of01.text (length s))
        (λ p. let z : ◌≡◌ {A = ℕ} 0 1 = cc (rw p at e) in absurd (omega arith))
        (λ p. on (valid s) (λ q. rw (p, q) at reads.left) (λ q. let z : ◌≡◌ {A = ℕ} 0 1 = cc (rw (p, q) at e) in absurd (omega arith)))

    pub fine_out : (c : Laid) → v ≡ Ok c → Exported s room room' (record { number = 0; section = 0; place = 0; lines = c.lines; used = c.used })
    fine_out c e =
        let a : answer_of v ≡ accepted c = ap answer_of e in
        record { says = rw (judged_is, a); left = rw (judged_is, a) (laid_there c (sym reads.says ∙ a)) }

    -- a refusal empties the room
    module _ (y : List ℕ) (ey : y ≡ zeros (length room')) (le : length room' ≡ length z) (r : Lines) where
      empty : y ≡ zeros (length room)
      empty = ey ∙ ap zeros (le ∙ long)

      pub refused_out : (u : AtLine) (n : ℕ) → v ≡ Err u → n ≡ number u.refused → r ≡ refused_at n u.line → Exported s room y r
      refused_out u n e q h =
          let a : answer_of v ≡ at_line (number u.refused) u.line = ap answer_of e in
          record { says = h ∙ rw (judged_is, a, q); left = rw (judged_is, a) empty }

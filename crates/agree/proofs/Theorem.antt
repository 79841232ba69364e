-- 01's documents and what is left in the rooms: for every limits and every text the same answer.
use Rattle.std.specs.Prelude.{ℕ, ◌≤◌, List, [], ◌≡◌, refl, length}
use Rattle.std.proofs.Common.{sym, ap, subst, ◌∙◌, arith}
use Rattle.meaning.specs.declared.Limits.{Limits}
use Rattle.meaning.specs.Refusal.{Fault, Answer, accepted, refused}
use Rattle.meaning.specs.Tree.{table}
use Rattle.meaning.specs.Document.{document, Parsed}
use Rattle.laws.specs.Never.{Numbered, Answers, never}
use Rattle.laws.specs.Fits.{Within, stored, fits}
use Rattle.laws.specs.Counted.{counted, at_most}
use Rattle.values.specs.Doc.{Doc as DocS, document_s}
use Rattle.agree.specs.Steps.{Agree}
use Rattle.agree.specs.Whole.{Doc-agrees}
use Rattle.agree.proofs.Whole.{documents_agree}
use Rattle.agree.proofs.Layouts.{values_agree}
use Rattle.agree.specs.Theorem.{Holds}

pub agreement : (lim : Limits) (s : List ℕ) → Doc-agrees [] (document lim s) (document_s lim s)
agreement lim s = documents_agree values_agree lim s

refused_on : (a : Answer Parsed) (b : Answer DocS) → Doc-agrees [] a b → (f : Fault) (i q : ℕ) → a ≡ refused f i q → b ≡ refused f i q
refused_on (accepted p) b h f i q e = let z : ◌≡◌ {A = ℕ} 0 1 = cc in absurd (omega arith)
refused_on (refused g j w) (accepted r) h f i q e = absurd h
refused_on (refused g j w) (refused g' j' w') h f i q e =
    let x : g' ≡ f = sym h.0 ∙ (cc) in let y : j' ≡ i = sym h.1 ∙ (cc) in let z : w' ≡ q = sym h.2 ∙ (cc) in rw (x, y, z)

refused_back : (a : Answer Parsed) (b : Answer DocS) → Doc-agrees [] a b → (f : Fault) (i q : ℕ) → b ≡ refused f i q → a ≡ refused f i q
refused_back a (accepted r) h f i q e = let z : ◌≡◌ {A = ℕ} 0 1 = cc in absurd (omega arith)
refused_back (accepted p) (refused g j w) h f i q e = absurd h
refused_back (refused g' j' w') (refused g j w) h f i q e =
    let x : g' ≡ f = h.0 ∙ (cc) in let y : j' ≡ i = h.1 ∙ (cc) in let z : w' ≡ q = h.2 ∙ (cc) in rw (x, y, z)

accepted_on : (a : Answer Parsed) (b : Answer DocS) → Doc-agrees [] a b → (p : Parsed) → a ≡ accepted p → (r : DocS) × (b ≡ accepted r) × Holds p r
accepted_on (accepted o) (accepted r) h p e =
    let x : o ≡ p = cc in
    (r, refl, record { bytes = h.0 ∙ ap (λ (z : Parsed). z.bytes) x; made = ap (λ (z : Parsed). z.made) (sym x) ∙ h.1; tree = subst (λ (z : Parsed). Agree r.bytes r.slots (table z.root)) x h.2 })
accepted_on (accepted o) (refused g j w) h p e = absurd h
accepted_on (refused g j w) b h p e = let z : ◌≡◌ {A = ℕ} 0 1 = cc in absurd (omega arith)

accepted_back : (a : Answer Parsed) (b : Answer DocS) → Doc-agrees [] a b → (r : DocS) → b ≡ accepted r → (p : Parsed) × (a ≡ accepted p) × Holds p r
accepted_back (accepted p) (accepted o) h r e =
    let x : o ≡ r = cc in
    (p, refl, record { bytes = ap (λ (z : DocS). z.bytes) (sym x) ∙ h.0; made = h.1 ∙ ap (λ (z : DocS). length z.slots) x; tree = subst (λ (z : DocS). Agree z.bytes z.slots (table p.root)) x h.2 })
accepted_back (refused g j w) (accepted o) h r e = absurd h
accepted_back a (refused g j w) h r e = let z : ◌≡◌ {A = ℕ} 0 1 = cc in absurd (omega arith)

module _ (lim : Limits) (s : List ℕ) where
  -- the same refusals: fault, section and place
  pub refused_same : (f : Fault) (i q : ℕ) → document lim s ≡ refused f i q → document_s lim s ≡ refused f i q
  refused_same f i q e = refused_on (document lim s) (document_s lim s) (agreement lim s) f i q e

  pub refused_only : (f : Fault) (i q : ℕ) → document_s lim s ≡ refused f i q → document lim s ≡ refused f i q
  refused_only f i q e = refused_back (document lim s) (document_s lim s) (agreement lim s) f i q e

  -- the same texts are read, and the rooms hold what 01 says
  pub read_same : (p : Parsed) → document lim s ≡ accepted p → (r : DocS) × (document_s lim s ≡ accepted r) × Holds p r
  read_same p e = accepted_on (document lim s) (document_s lim s) (agreement lim s) p e

  pub read_only : (r : DocS) → document_s lim s ≡ accepted r → (p : Parsed) × (document lim s ≡ accepted p) × Holds p r
  read_only r e = accepted_back (document lim s) (document_s lim s) (agreement lim s) r e

  -- ---- what the laws of 01 say of the rooms

  -- what is read adds no more bytes than the text has, and no more values than the limit
  pub bytes_fit : (r : DocS) → document_s lim s ≡ accepted r → length r.bytes ≤ length s
  bytes_fit r e =
      let h = read_only r e in
      let w : Within stored (length s) (accepted h.0) = subst (λ (a : Answer Parsed). Within stored (length s) a) h.1 (fits lim s) in
      rw h.2.bytes w

  pub slots_fit : (r : DocS) → document_s lim s ≡ accepted r → length r.slots ≤ lim.values
  slots_fit r e =
      let h = read_only r e in
      let w : Within counted lim.values (accepted h.0) = subst (λ (a : Answer Parsed). Within counted lim.values a) h.1 (at_most lim s) in
      rw (← h.2.made) w

  -- a refusal has a number of 01's table
  pub refused_numbered : (f : Fault) (i q : ℕ) → document_s lim s ≡ refused f i q → Numbered f
  refused_numbered f i q e = subst (λ (a : Answer Parsed). Answers a) (refused_only f i q e) (never lim s)

-- A plan of a text: what comes before it.
use Rattle.std.specs.Prelude.{ℕ, List, ◌≡◌}
use Rattle.std.proofs.Math.Path.{subst}
use Rattle.meaning.specs.declared.Limits.{Limits}
use Rattle.meaning.specs.Refusal.{Answer, accepted, accepted_then}
use Rattle.meaning.specs.Verdict.{fine}
use Rattle.meaning.specs.Rules.{rules}
use Rattle.meaning.specs.Preset.{Read, read, validate}
use Rattle.meaning.specs.Plan.{Selection, Planned, plan_of, plan}
use Rattle.laws.specs.Answers.{accepted_one, after_accepted}

module _ (lim : Limits) (store tree : ℕ) (name text : List ℕ) where
  -- what is validated obeys the rules
  pub valid_rules : (x : Read) → validate lim store tree name text ≡ accepted x → rules x.preset ≡ fine
  unfolding validate
  valid_rules x e =
      let y = after_accepted (λ (r : Read). accepted_then (rules r.preset) (λ u. accepted r)) (read lim store tree name text) x e in
      let u = after_accepted (λ u. accepted y.0) (rules y.0.preset) x y.2 in
      subst (λ (r : Read). rules r.preset ≡ fine) (accepted_one y.0 x u.2) u.1

  module _ (s : Selection) where
    abbrev validated : Answer Read
    validated = validate lim store tree name text

    abbrev ending : Read → Answer Planned
    ending x = accepted_then (plan_of x.preset s) (λ p. accepted (record { read = x; plan = p }))

    -- a plan is made of a preset that is validated
    pub text_planned : (q : Planned) → plan lim store tree name s text ≡ accepted q
        → (validated ≡ accepted q.read) × (plan_of q.read.preset s ≡ accepted q.plan)
    unfolding plan
    text_planned q e =
        let x = after_accepted ending validated q e in
        let p = after_accepted (λ p. accepted (record { read = x.0; plan = p })) (plan_of x.0.preset s) q x.2 in
        subst (λ (z : Planned). (validated ≡ accepted z.read) × (plan_of z.read.preset s ≡ accepted z.plan)) (accepted_one (record { read = x.0; plan = p.0 }) q p.2) (x.1, p.1)

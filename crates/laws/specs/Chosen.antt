-- Which application a selection means, and when there is none.
use Rattle.std.specs.Prelude.{ℕ, zero, suc, ◌+◌, ◌<◌, Bool, true, false, List, [], ◌∷◌, ◌≡◌, refl}
use Rattle.std.proofs.Math.Option.{Option, none, some}
use Rattle.std.proofs.Common.{sym, ap, ◌∙◌, subst, arith}
use Rattle.meaning.specs.Base.{pick, nil?, same}
use Rattle.meaning.specs.Refusal.{numbered, accepted, in_application}
use Rattle.meaning.specs.Schema.{Partition, Component, Application, Preset}
use Rattle.meaning.specs.Verdict.{fine, among, long, or_else}
use Rattle.meaning.specs.Rules.{partition_names, first_named, place_fault, application_fault, application_rules}
use Rattle.meaning.specs.Plan.{Selection, boot_chain, app, Plan, Entry, declared, component_names, admitted, chosen, composed, plan_of}
use Rattle.laws.specs.Cases.{on, never}
use Rattle.laws.specs.Order.{same_eq, eq_same}
use Rattle.laws.specs.Answers.{accepted_one, refused_never, after_accepted}
use Rattle.laws.specs.Accepted.{fine_passes, passes_all}
use Rattle.laws.specs.Places.{At, In, all_of, none_some, some_one}

-- no application has the key
abbrev pub Undeclared : List Application → List ℕ → Type 0
Undeclared apps key = (i : ℕ) (a : Application) → At apps i a → key ≡ a.pack → ⊥

-- a is the application of the key, and i its entry
pub record Declared (apps : List Application) (key : List ℕ) (i : ℕ) (a : Application) : Type 0 where
  pub here : At apps i a
  pub is : key ≡ a.pack
  pub first : (j : ℕ) (b : Application) → j < i → At apps j b → key ≡ b.pack → ⊥

-- some component has the name
abbrev pub Taken : List Component → List ℕ → Type 0
Taken cs name = (i : ℕ) × (c : Component) × At cs i c × (name ≡ c.head.name)

module _ (key : List ℕ) where
  pub undeclared_none : (n : ℕ) (apps : List Application) → Undeclared apps key → declared n key apps ≡ none
  undeclared_none n [] h = refl
  undeclared_none n (a ∷ apps) h =
      on (same key a.pack)
      (λ t. absurd (h 0 a refl (same_eq key a.pack t)))
      (λ t. rw t (undeclared_none (n + 1) apps (λ i b g e. h (suc i) b g e)))

  pub none_undeclared : (n : ℕ) (apps : List Application) → declared n key apps ≡ none → Undeclared apps key
  none_undeclared n [] e i a h k = absurd h
  none_undeclared n (b ∷ apps) e i a h k =
      on (same key b.pack)
      (λ t. none_some (record { place = n; application = b }) (sym (rw t at e)))
      (λ t. go (λ j g. none_undeclared (n + 1) apps (rw t at e) j a g k) t i h)
    where
      go : ((j : ℕ) → At apps j a → ⊥) → same key b.pack ≡ false → (j : ℕ) → At (b ∷ apps) j a → ⊥
      go rest t zero g = never (eq_same key b.pack (k ∙ ap (λ (x : Application). x.pack) (sym g))) t
      go rest t (suc j) g = rest j g

  -- one entry further down
  lower : (b a : Application) (apps : List Application) (i : ℕ) → same key b.pack ≡ false → Declared apps key i a → Declared (b ∷ apps) key (suc i) a
  lower b a apps i t h = record { here = h.here; is = h.is; first = go }
    where
      go : (j : ℕ) (c : Application) → j < suc i → At (b ∷ apps) j c → key ≡ c.pack → ⊥
      go zero c l g e = never (eq_same key b.pack (e ∙ ap (λ (x : Application). x.pack) (sym g))) t
      go (suc j) c l g e = h.first j c (omega arith) g e

  pub some_declared : (n : ℕ) (apps : List Application) (e : Entry) → declared n key apps ≡ some e → (i : ℕ) × (e.place ≡ n + i) × Declared apps key i e.application
  some_declared n [] e h = none_some e h
  some_declared n (a ∷ apps) e h =
      on (same key a.pack)
      (λ t. subst (λ (x : Entry). (i : ℕ) × (x.place ≡ n + i) × Declared (a ∷ apps) key i x.application) (some_one (record { place = n; application = a }) e (rw t at h))
      (0, omega arith, record { here = refl; is = same_eq key a.pack t; first = λ j b l. absurd (omega (arith, l)) }))
      (λ t. let r = some_declared (n + 1) apps e (rw t at h) in (suc r.0, omega (arith, r.1), lower a e.application apps r.0 t r.2))

  pub declared_some : (n : ℕ) (apps : List Application) (i m : ℕ) (a : Application) → m ≡ n + i → Declared apps key i a → declared n key apps ≡ some (record { place = m; application = a })
  declared_some n [] i m a e h = absurd h.here
  declared_some n (b ∷ apps) zero m a e h =
      let t : same key b.pack ≡ true = eq_same key b.pack (h.is ∙ ap (λ (x : Application). x.pack) (sym h.here)) in
      let f : n ≡ m = omega (arith, e) in
      rw (t, h.here, f)
  declared_some n (b ∷ apps) (suc i) m a e h =
      on (same key b.pack)
      (λ t. absurd (h.first 0 b (omega arith) refl (same_eq key b.pack t)))
      (λ t. rw t (declared_some (n + 1) apps i m a (omega (arith, e)) (record { here = h.here; is = h.is; first = λ j c l g k. h.first (suc j) c (omega (arith, l)) g k })))

-- ---- names

pub taken_among : (cs : List Component) (name : List ℕ) → Taken cs name → among name (component_names cs) ≡ true
taken_among [] name h = absurd h.2
taken_among (d ∷ cs) name h = on (same name d.head.name) (λ t. rw t) (λ t. rw t (go (λ g. taken_among cs name g) t h.0 h.1 h.2 h.3))
  where
    go : (Taken cs name → among name (component_names cs) ≡ true) → same name d.head.name ≡ false → (i : ℕ) (c : Component) → At (d ∷ cs) i c → name ≡ c.head.name → among name (component_names cs) ≡ true
    go rest t zero c g e = never (eq_same name d.head.name (e ∙ ap (λ (x : Component). x.head.name) (sym g))) t
    go rest t (suc i) c g e = rest (i, c, g, e)

pub among_taken : (cs : List Component) (name : List ℕ) → among name (component_names cs) ≡ true → Taken cs name
among_taken [] name e = never {b = false} e refl
among_taken (d ∷ cs) name e =
    on (same name d.head.name)
    (λ t. (0, d, refl, same_eq name d.head.name t))
    (λ t. let r = among_taken cs name (rw t at e) in (suc r.0, r.1, r.2, r.3))

-- ---- the application of a plan

-- a plan is made with the application that was chosen
pub plan_made : (r : Preset) (s : Selection) (p : Plan) → plan_of r s ≡ accepted p → (a : Option Application) × (chosen r s ≡ accepted a) × (composed r s a ≡ p)
unfolding plan_of
plan_made r s p e =
    let h = after_accepted (λ (a : Option Application). accepted (composed r s a)) (chosen r s) p e in
    (h.0, h.1, accepted_one (composed r s h.0) p h.2)

-- which is one of the preset's
pub chosen_in : (r : Preset) (s : Selection) (a : Application) → chosen r s ≡ accepted (some a) → In a r.applications
unfolding chosen admitted
chosen_in r boot_chain a e = none_some a (accepted_one none (some a) e)
chosen_in r (app key) a e = go (declared 0 key r.applications) refl e
  where
    found : (x : Entry) → declared 0 key r.applications ≡ some x → x.application ≡ a → In a r.applications
    found x h k = let d = some_declared key 0 r.applications x h in (d.0, subst (λ (b : Application). At r.applications d.0 b) k d.2.here)

    go : (o : Option Entry) → declared 0 key r.applications ≡ o → admitted r.components o ≡ accepted (some a) → In a r.applications
    go none h f = refused_never (numbered 80) in_application 0 (some a) f
    go (some x) h f =
        on (among x.application.name (component_names r.components))
        (λ t. refused_never (numbered 81) in_application x.place (some a) (rw t at f))
        (λ t. found x h (some_one x.application a (accepted_one (some x.application) (some a) (rw t at f))))

-- there is a partition of that name, and the first is open
pub record Open (name : List ℕ) (parts : List Partition) : Type 0 where
  pub partition : Partition
  pub named : first_named name parts ≡ some partition
  pub unlocked : partition.locked ≡ false

pub named_among : (name : List ℕ) (parts : List Partition) (p : Partition) → first_named name parts ≡ some p → among name (partition_names parts) ≡ true
named_among name [] p e = none_some p e
named_among name (q ∷ parts) p e = on (same name q.name) (λ t. rw t) (λ t. rw t (named_among name parts p (rw t at e)))

-- 64, 67: an accepted application's partition is there, "exactly", and open
placed_open : (parts : List Partition) (earlier : List (List ℕ)) (a : Application) → application_fault parts earlier a ≡ 0 → Open a.partition parts
unfolding application_fault
placed_open parts earlier a e = go (nil? a.name) (long a.name) (nil? a.filename) (first_named a.partition parts) _ refl e
  where
    go : (unnamed far unfiled : Bool) (o : Option Partition) (n : ℕ) → first_named a.partition parts ≡ o
        → pick unnamed 61 (pick far 62 (pick unfiled 63 (or_else (place_fault o) n))) ≡ 0 → Open a.partition parts
    go true far unfiled o n h f = absurd (omega (arith, f))
    go false true unfiled o n h f = absurd (omega (arith, f))
    go false false true o n h f = absurd (omega (arith, f))
    go false false false none n h f = absurd (omega (arith, f))
    go false false false (some p) n h f =
        on p.locked
        (λ t. let z : ◌≡◌ {A = ℕ} 67 0 = rw t at f in absurd (omega (arith, z)))
        (λ t. record { partition = p; named = h; unlocked = t })

pub application_open : (parts : List Partition) (apps : List Application) (a : Application) → application_rules parts apps ≡ fine → In a apps → Open a.partition parts
unfolding application_rules
application_open parts apps a e h =
    all_of (λ (b : Application). Open b.partition parts) apps h.0 a
    (passes_all _ (application_fault parts) _ (λ earlier b z. placed_open parts earlier b z) [] apps (fine_passes (application_fault parts) _ _ 0 [] apps e)) h.1

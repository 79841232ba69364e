-- The listing is 01's: one law for each way out.
use Prim.Native.Nat.{ℕ, ◌%◌, ◌≤◌, ◌<◌}
use mathlib.Core.Bool.{Bool, true, false}
use mathlib.Core.List.{List, []}
use mathlib.Core.Option.{none}
use mathlib.Core.Path.{◌≡◌, refl, sym, ap, subst, ◌∙◌}
use native.Mathlib.Omega.{arith}
use borrow.Author.Tests.{ltb-false, leb-false}
use lib.Dec.{ltb, leb}
use lib.ListN.{length, take}
use lib.Seq.{take_all}
use Rattle.meaning.specs.Base.{pick}
use Rattle.meaning.specs.Limits.{of01}
use Rattle.meaning.specs.Refusal.{Answer, accepted, refused, numbered, accepted_then, Fault}
use Rattle.meaning.specs.Preset.{Read}
use Rattle.meaning.specs.Schema as schemas
use Rattle.meaning.specs.Plan as plans
use Rattle.meaning.specs.Print.{page}
use Rattle.meaning.specs.Listing as meant
use Rattle.meaning.specs.Listing.{out_size, lines_of, bytes_of}
use Rattle.laws.specs.Answers.{accepted_one}
use Rattle.laws.specs.Cases.{on}
use Rattle.laws.specs.Listings.{planned_fits}
use Rattle.values.specs.Doc.{Doc}
use Rattle.toml_lite.specs.Rooms.{judged}
use Rattle.scalar.specs.Stores.{over}
use Rattle.tree.specs.Doors.{fields_of}
use Rattle.parse.specs.Given as goal
use Rattle.parse.specs.Refused.{lent_text}
use Rattle.validate.specs.Gathered.{components}
use Rattle.report.specs.Shown.{lines}
use Rattle.report.specs.Said.{lines_say}
use Rattle.preset.specs.declared.Outcome as entered
use Rattle.preset.specs.declared.listing.Listed as lists
use Rattle.preset.specs.Listings as entries
use Rattle.preset.specs.Listings.{lines_in}
use Rattle.host.specs.declared.documents.Outcome.{Outcome}
use Rattle.host.specs.declared.listings.Listed.{Listed}
use Rattle.host.specs.Presets.{Recorded, Answered, exported}
use Rattle.host.specs.Plans.{planned}
use Rattle.host.specs.Planned.{plan, planned_read, planned_made}
use Rattle.host.specs.Listings.{listing, Reported}
use Rattle.host.proofs.Recording.{plan_is, plan_accepted, plan_judged}

-- the same numbers
abbrev shown : lists.Listed → Listed
shown r = record { number = r.number; section = r.section; place = r.place; written = r.written % 4294967296 }

-- what was refused was refused by planning
refused_read : (x : Answer plans.Planned) (f : Fault) (section place : ℕ) → accepted_then x (λ q. accepted q.read) ≡ refused f section place → x ≡ refused f section place
refused_read (accepted q) f section place e = let z : ◌≡◌ {A = ℕ} 0 1 = cc in absurd (omega arith)
refused_read (refused g s n) f section place e = let a : g ≡ f = cc in let b : s ≡ section = cc in let c : n ≡ place = cc in rw (a, b, c)

module _ (text name store tree out store' tree' out' : List ℕ) (r : lists.Listed) where
  -- 17
  short_is : meant.short (length out) name ≡ true → entries.Short store tree out store' tree' out' r → Reported text name store tree out store' tree' out' (shown r)
  unfolding meant.listing
  short_is t h =
      let e : listing text name store tree out ≡ refused (numbered 17) 0 0 = rw t in
      rw e (record { says = rw h.says; store_is = h.store_is; tree_is = h.tree_is; out_is = h.out_is; shows = tt })

  module _ (t : meant.short (length out) name ≡ false) where
    -- an output that is long enough
    long : (out_size name ≤ length out) × (out_size name < 4294967296)
    unfolding meant.short
    long =
        on (ltb (length out) (out_size name)) (λ e. absurd (no (rw e at t)))
        (λ e. on (leb 4294967296 (out_size name)) (λ d. absurd (no (rw (e, d) at t))) (λ d. (ltb-false (length out) (out_size name) e, leb-false 4294967296 (out_size name) d)))
      where
        no : true ≡ false → ⊥
        no f = let z : ◌≡◌ {A = ℕ} 1 0 = ap (λ (x : Bool). pick x 1 0) f in omega arith

    answer : listing text name store tree out ≡ accepted_then (plan text name 0 [] store tree) (λ x. accepted (meant.listed x))
    unfolding meant.listing
    answer = rw t

    module _ (h : entries.Planned text name store tree out store' tree' out' r) where
      abbrev o : entered.Outcome
      o = h.outcome

      answered : Answered (planned text name 0 [] store tree) text name store tree store' tree' (exported o)
      answered = plan_is text name 0 [] store tree store' tree' o (exported o) h.parsed refl

      -- ---- a refusal
      module _ (f : Fault) (section place : ℕ) (e : planned text name 0 [] store tree ≡ refused f section place) where
        nothing : entries.Emptied out out' o r
        nothing = go (judged text (length store) (length tree)) refl
          where
            go : (b : Answer Doc) → judged text (length store) (length tree) ≡ b → entries.Emptied out out' o r
            go (refused g s l) eb = h.unread g s l eb
            go (accepted d) eb =
                (h.lined d eb).not (λ z.
                let p = plan_accepted text name 0 [] store tree store' tree' o h.parsed d eb z in
                let x : refused f section place ≡ accepted p.0 = sym e ∙ p.1 in
                let y : ◌≡◌ {A = ℕ} 0 1 = cc in
                absurd (omega arith))

        refused_is : Reported text name store tree out store' tree' out' (shown r)
        refused_is =
            let x : plan text name 0 [] store tree ≡ refused f section place = refused_read (plan text name 0 [] store tree) f section place (sym (planned_read text name 0 [] store tree) ∙ e) in
            let a : listing text name store tree out ≡ refused f section place = answer ∙ rw x in
            let g = subst (λ (v : Answer Read). Answered v text name store tree store' tree' (exported o)) e answered in
            let n = nothing in
            rw a
            (record {
              says = rw n.says (ap (λ (q : Outcome). record { number = q.number; section = q.section; place = q.place; written = 0 }) g.says);
              store_is = g.store_is;
              tree_is = g.tree_is;
              out_is = n.out_is;
              shows = tt;
            })

      -- ---- a plan
      module _ (p : Read) (e : planned text name 0 [] store tree ≡ accepted p) where
        g : Answered (accepted p) text name store tree store' tree' (exported o)
        g = subst (λ (v : Answer Read). Answered v text name store tree store' tree' (exported o)) e answered

        fine : o.number ≡ 0
        fine = ap (λ (q : Outcome). q.number) g.says

        made_is : o.made ≡ p.parsed.made
        made_is = ap (λ (q : Outcome). q.made) g.says

        its : (q : plans.Plan) × (plans.plan_of p.preset plans.boot_chain ≡ accepted q) × (plan text name 0 [] store tree ≡ accepted (record { read = p; plan = q }))
        its = planned_made text name 0 [] store tree p e

        abbrev x : plans.Planned
        x = record { read = p; plan = its.0 }

        recorded : Recorded name store' tree' p
        recorded = g.shows

        abbrev made : ℕ
        made = p.parsed.made

        few : length (components tree' store' made) ≤ 64
        few = goal.components_few tree' store' made (fields_of tree' made 1) of01 (lent_text name) recorded.clear

        plan_is_its : plans.composed p.preset plans.boot_chain none ≡ its.0
        unfolding plans.plan_of plans.chosen
        plan_is_its = accepted_one (plans.composed p.preset plans.boot_chain none) its.0 its.1

        -- the lines of the rooms are 01's
        said : lines tree' store' o.made name ≡ bytes_of (meant.listed x)
        said =
            ap (λ (m : ℕ). lines tree' store' m name) made_is
            ∙ lines_say tree' store' made name few
            ∙ ap (λ (k : schemas.Preset). page (lines_of made k (plans.composed k plans.boot_chain none))) recorded.records
            ∙ ap (λ (q : plans.Plan). page (lines_of made p.preset q)) plan_is_its

        fits : length (bytes_of (meant.listed x)) ≤ out_size name
        fits = planned_fits (length store) (length tree) name text x its.2

        accepted_is : Reported text name store tree out store' tree' out' (shown r)
        accepted_is =
            let d = plan_judged text name 0 [] store tree p e in
            let all : lines_in out name store' tree' o.made ≡ bytes_of (meant.listed x) =
            ap (take (length out)) said ∙ take_all (length out) (bytes_of (meant.listed x)) (omega (arith, fits, long.0)) in
            let n : length (lines_in out name store' tree' o.made) ≡ length (bytes_of (meant.listed x)) = ap length all in
            let k = (h.lined d.0 d.1).fine fine in
            let w : length (bytes_of (meant.listed x)) % 4294967296 ≡ length (bytes_of (meant.listed x)) = omega (arith, fits, long.1) in
            let a : listing text name store tree out ≡ accepted (meant.listed x) = answer ∙ rw its.2 in
            rw a
            (record {
              says = ap shown k.0 ∙ ap (λ (m : ℕ). record { number = 0; section = 0; place = 0; written = m }) (ap (λ (m : ℕ). m % 4294967296) n ∙ w);
              store_is = g.store_is;
              tree_is = g.tree_is;
              out_is = k.1 ∙ ap (λ (s : List ℕ). over s out) all;
              shows = recorded;
            })

      planned_is : Reported text name store tree out store' tree' out' (shown r)
      planned_is = go (planned text name 0 [] store tree) refl
        where
          go : (v : Answer Read) → planned text name 0 [] store tree ≡ v → Reported text name store tree out store' tree' out' (shown r)
          go (accepted p) e = accepted_is p e
          go (refused f section place) e = refused_is f section place e

  -- every text
  pub listing_is : entries.Lists text name store tree out store' tree' out' r → (q : Listed) → q ≡ shown r → Reported text name store tree out store' tree' out' q
  listing_is h q e =
      rw e
      (on (meant.short (length out) name)
      (λ t. short_is t (subst (λ (b : Bool). entries.ListsBy b text name store tree out store' tree' out' r) t h.by))
      (λ t. planned_is t (subst (λ (b : Bool). entries.ListsBy b text name store tree out store' tree' out' r) t h.by)))

-- The selection: one law for each way on and out.
use Prim.Native.Nat.{ℕ, suc, ◌+◌, ◌-◌, ◌≤◌, ◌<◌}
use mathlib.Core.Bool.{Bool, true, false}
use mathlib.Core.List.{List as Seq}
use mathlib.Core.Path.{◌≡◌, refl, sym, ap, ◌∙◌}
use native.Mathlib.Omega.{arith}
use borrow.Author.Tests.{ne_eqb}
use Rattle.meaning.specs.Base.{ascii, same}
use Rattle.tree.specs.declared.Span.{Span}
use Rattle.tree.specs.declared.Step.{Step}
use Rattle.std.specs.Prelude.{Option, Some, None}
use Rattle.tree.specs.declared.Keys.{Keys}
use Rattle.tree.specs.Steps.{KeyIs, Over, Begins, KeyGives, key_given, key_stands}
use Rattle.parse.proofs.Entering.{walk_ended, walk_given}
use Rattle.tree.specs.declared.Value.{Value}
use Rattle.tree.specs.Doors.{Stood, value_at}
use Rattle.schema.specs.Texts.{clip, start_of, length_of}
use Rattle.parse.specs.declared.Refusal.{Refusal}
use Rattle.parse.specs.declared.front.TableRead.{TableRead}
use Rattle.parse.specs.declared.field.TextRead.{TextRead}
use Rattle.parse.specs.declared.entry.List.{List}
use Rattle.parse.specs.declared.application.ApplicationRead.{ApplicationRead}
use Rattle.parse.specs.Fields.{text_needed}
use Rattle.parse.specs.Component.{component_read, head_read}
use Rattle.parse.specs.Entries.{Among, entry_table, refusal_at, walk, component_at, application_at}
use Rattle.parse.specs.Views.{application_list}
use Rattle.plan.specs.declared.choice.Choice.{Choice}
use Rattle.plan.specs.declared.choice.Choice.TheVariants.{BootChain, Undeclared, At}
use Rattle.plan.specs.Choices.{Chosen, keyed, declared_in, declared, choice, named, taken, name_fault, fault}

-- ---- the application of a key

pub key_is_lem : (room store key : Seq ℕ) (n : ℕ) (v : Span) (b : Seq ℕ) (r : Bool) → KeyIs room n v → b ≡ clip v.from v.len store → r ≡ same key b → r ≡ keyed room store key n
unfolding keyed
key_is_lem room store key n v b r e1 e2 e3 = rw (e3, e2, e1.is)

-- of a walk that began as v, what is left to look through gives what all of it gives
pub record Seeking (room store key : Seq ℕ) (v w : Keys) (i : ℕ) : Type 0 where
  pub high : i ≤ 65
  pub over : Over room v.place v.end w
  pub left : declared_in room store key 0 (walk room store v.end v.place 65 None)
      ≡ declared_in room store key i (walk room store v.end v.place (65 - i) w.after)

pub seek_start : (room store key : Seq ℕ) (place end : ℕ) (v : Keys) → Begins room place end None v → Seeking room store key v v 0
seek_start room store key place end v b = record { high = omega arith; over = record { ready = b.over.ready; place = refl; end = refl }; left = rw b.after }

pub seek_on : (room store key : Seq ℕ) (v w : Keys) (i : ℕ) → Seeking room store key v w i → i ≤ 64 → (step : Option (Step Keys)) → KeyGives room store w step → (given : Step Keys) → step ≡ Some given
    → (b : Bool) → b ≡ keyed room store key given.value → b ≡ false → Seeking room store key v given.rest (i + 1)
seek_on room store key v w i k l step h given g b e f =
    let q : keyed room store key given.value ≡ false = sym e ∙ f in
    let d : 65 - i ≡ suc (65 - (i + 1)) = omega arith in
    let s = walk_given room store v.place v.end w k.over step h (65 - (i + 1)) given g in
    record { high = omega arith; over = (key_given room store v.place v.end w k.over step h given g).over; left = rw (d, s, q) at k.left }

module _ (room store key : Seq ℕ) (list : List) (v : Keys) (b : Begins room list.place list.end None v) (w : Keys) (i : ℕ) (c : Seeking room store key v w i) where
  seeking : Seeking room store key (record { place = list.place; low = v.low; end = list.end; after = v.after }) w i
  seeking = rw (b.over.place, b.over.end) at c

  pub seek_end : 64 < i → Chosen room (declared room store key list) Undeclared
  seek_end l = let d : 65 - i ≡ 0 = omega (arith, c.high) in record { is = sym (rw d at seeking.left); stands = tt }

  module _ (l : i ≤ 64) (step : Option (Step Keys)) (h : KeyGives room store w step) where
    pub seek_none : step ≡ None → Chosen room (declared room store key list) Undeclared
    seek_none g =
        let s = walk_ended room store list.place list.end w seeking.over step h (65 - i) g in
        record { is = sym (rw s at seeking.left); stands = tt }

    module _ (given : Step Keys) (g : step ≡ Some given) (made : ℕ) (a : Among room made list) where
      pub seek_stood : Stood room given.value
      seek_stood = key_stands room store list.place list.end w seeking.over step h given g made a.rooms a.end

      pub seek_hit : (b : Bool) → b ≡ keyed room store key given.value → b ≡ true → Chosen room (declared room store key list) (At i given.value)
      seek_hit b e t =
          let q : keyed room store key given.value ≡ true = sym e ∙ t in
          let d : 65 - i ≡ suc (65 - (i + 1)) = omega arith in
          let s = walk_given room store list.place list.end w seeking.over step h (65 - (i + 1)) given g in
          record { is = sym (rw (d, s, q) at seeking.left); stands = seek_stood }

-- ---- a selection

module _ (room store : Seq ℕ) (made app : ℕ) (key : Seq ℕ) where
  pub choice_boot : app ≡ 0 → Chosen room (choice room store made app key) BootChain
  choice_boot e = record { is = rw e; stands = tt }

  pub choice_app : (app ≡ 0 → ⊥) → (l : List) (r : Choice) → l ≡ application_list room store made → Chosen room (declared room store key l) r → Chosen room (choice room store made app key) r
  choice_app z l r e k = record { is = rw (ne_eqb app 0 z, ← e) k.is; stands = k.stands }

-- ---- a component of the name

module _ (room store : Seq ℕ) (made : ℕ) (name : Seq ℕ) where
  pub name_is : (n : ℕ) (v : Value) (t : TableRead) (own : TextRead) (from len : ℕ) (b : Seq ℕ) (r : Bool) → v ≡ value_at room store n → t ≡ entry_table room made v
      → own ≡ text_needed room store t.fields (ascii "name") → from ≡ start_of own.text → len ≡ length_of own.text → b ≡ clip from len store → r ≡ same name b
      → r ≡ named room store made name n
  unfolding named component_at component_read head_read
  name_is n v t own from len b r e1 e2 e3 e4 e5 e6 e7 = rw (e7, e6, e4, e5, e3, e2, e1)

-- ---- 80, 81

module _ (room store : Seq ℕ) (made : ℕ) where
  module _ (place n : ℕ) (a : ApplicationRead) (from len : ℕ) (own : Seq ℕ) (b : Bool) (r : Refusal) (e1 : a ≡ application_at room store made n 32)
      (e2 : from ≡ start_of a.application.name) (e3 : len ≡ length_of a.application.name) (e4 : own ≡ clip from len store) (e5 : b ≡ taken room store made own) where
    own_taken : b ≡ taken room store made (clip (start_of (application_at room store made n 32).application.name) (length_of (application_at room store made n 32).application.name) store)
    own_taken = e5 ∙ rw (e4, e2, e3, e1)

    pub name_taken : b ≡ true → r ≡ refusal_at 5 81 place → r ≡ name_fault room store made place n
    unfolding name_fault
    name_taken t e = rw (← own_taken, t) e

    pub name_free : b ≡ false → r ≡ refusal_at 0 0 0 → r ≡ name_fault room store made place n
    unfolding name_fault
    name_free t e = rw (← own_taken, t) e

  module _ (c d : Choice) (r : Refusal) (k : Chosen room d c) where
    pub fault_of_lem : (v : Choice) → c ≡ v → r ≡ fault room store made v → r ≡ fault room store made d
    fault_of_lem v e q = q ∙ ap (fault room store made) (sym e ∙ k.is)

    pub choice_stood : (place n : ℕ) → c ≡ At place n → Stood room n
    choice_stood place n e = rw e at k.stands

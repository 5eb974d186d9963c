-- A call's contract from its parts: what was admitted, planned and performed.
-- Assumes nothing.
use mathlib.Core.Path.{◌≡◌, refl, sym, ap, ◌∙◌}
use mathlib.Core.Bool.{Bool, true, false, true≢false}
use mathlib.Core.List.{List}
use Prim.Native.Nat.{ℕ, ◌≤◌}
use native.Mathlib.Omega.{arith}
use lib.ListN.{length}
use lib.Dec.{leb}
use borrow.Author.Tests.{leb-true}
use Rattle.words.proofs.Tests.{and_right}
use Rattle.std.specs.Prelude.{Result, Ok, Err, IsErrAnd}
use Rattle.model.specs.Refusals.{number_of}
use Rattle.model.specs.declared.Refusal.{Refusal}
use Rattle.model.specs.Calls.{Call, Answered, refused, is_refusal, step}
use Rattle.model.specs.Calls as calls
use Rattle.model.specs.Doc.{Doc}
use Rattle.model.specs.RulesTest.{rules_hold}
use Rattle.layout.specs.declared.Document.{Document}
use Rattle.layout.specs.Layout.{limits_of, scratch_words, memory_ok, buffers_ok}
use Rattle.memory.specs.Decode.{decode}
use Rattle.memory.specs.Step.{Step}
use Rattle.memory.specs.Performed.{Admitted, Performed}
use Rattle.memory.specs.declared.lent.Lent.{Lent}
use Rattle.memory.specs.declared.view.View.{View}
use Rattle.memory.specs.View.{decoded}
use Rattle.memory.specs.Lent.{Stepped, Performs}
use Rattle.verdicts.specs.Verdicts.{refusal_number}
use Rattle.verdicts.proofs.Refusing.{numbered}
use Rattle.editing.specs.Contract.{outcome, admission, scratch_after, Edits, Ready}
use Rattle.editing.proofs.Numbers.{refusing, never-zero, refused_as}

-- what a `?` passes on
pub passed_on : {T : Type 0} (r : Result T Refusal) (w : Refusal) → IsErrAnd r (λ y. y ≡ w) → r ≡ Err w
passed_on (Ok x) w e = absurd e
passed_on (Err y) w e = ap (λ (x : Refusal). Err x) e

-- what a plan decided of the view that was admitted, it decided of what was lent
pub seen : (c : Call) (d : Document) (mem s : List ℕ) (v : View) → (v.document ≡ d) × (v.words.now ≡ mem) × Ready d mem s → (n : ℕ) → n ≡ refusal_number (step c (decoded v)).answer
    → n ≡ refusal_number (step c (decode d mem)).answer
seen c d mem s v r n e = rw (r.0, r.1) at e

module _ (c : Call) (d : Document) (mem s : List ℕ) where
  abbrev fits : Bool
  fits = buffers_ok d (length mem) (length s)

  -- a refusal, which changes nothing
  refuses : (w : Refusal) → refused (number_of w) ≡ (outcome c d mem (length s)).answer → (s' : List ℕ) → s' ≡ scratch_after d mem s → Edits c d mem s (refused (number_of w)) d mem s'
  refuses w a s' h = record {
    answer = a;
    after = λ f. absurd (true≢false f);
    kept = λ f. (refl, refl);
    limits = refl;
    lent = refl;
    beyond = refl;
    cleared = h;
  }

  -- refused 4 or 5
  pub unadmitted : (w : Refusal) → number_of w ≡ admission d mem (length s) → (s' : List ℕ) → s' ≡ scratch_after d mem s → Edits c d mem s (refused (number_of w)) d mem s'
  unfolding admission outcome
  unadmitted w k s' h = refuses w (go fits refl (rules_hold (decode d mem)) refl) s' h
    where
      go : (t : Bool) → fits ≡ t → (r : Bool) → rules_hold (decode d mem) ≡ r → refused (number_of w) ≡ (outcome c d mem (length s)).answer
      go true f true g = (let z : number_of w ≡ 0 = k ∙ rw (f, g) in never-zero w z)
      go true f false g = (let z : number_of w ≡ 5 = k ∙ rw (f, g) in ap refusing z ∙ rw (f, g))
      go false f r g = (let z : number_of w ≡ 4 = k ∙ rw f in ap refusing z ∙ rw f)

  -- the call went on
  module _ (o : 0 ≡ admission d mem (length s)) where
    past : outcome c d mem (length s) ≡ step c (decode d mem)
    unfolding admission outcome
    past = go fits refl (rules_hold (decode d mem)) refl
      where
        go : (t : Bool) → fits ≡ t → (r : Bool) → rules_hold (decode d mem) ≡ r → outcome c d mem (length s) ≡ step c (decode d mem)
        go true f true g = rw (f, g)
        go true f false g = (let z : ◌≡◌ {A = ℕ} 0 5 = o ∙ rw (f, g) in absurd (omega arith))
        go false f r g = (let z : ◌≡◌ {A = ℕ} 0 4 = o ∙ rw f in absurd (omega arith))

    -- the plan refused
    pub unplanned : (v : View) (z : List ℕ) → (v.document ≡ d) × (v.words.now ≡ mem) × Ready d mem z → (w : Refusal) → number_of w ≡ refusal_number (step c (decoded v)).answer → (s' : List ℕ) → s' ≡ scratch_after d mem s
        → Edits c d mem s (refused (number_of w)) d mem s'
    unplanned v z r w e s' h = refuses w (refused_as w (step c (decode d mem)).answer (seen c d mem z v r (number_of w) e) ∙ sym (ap (λ (x : calls.Out). x.answer) past)) s' h

    pub edited : (a : Answered) (d' : Document) (mem' : List ℕ) → is_refusal a ≡ false → Performed c d mem a d' mem' → (s' : List ℕ) → s' ≡ scratch_after d mem s → Edits c d mem s a d' mem' s'
    edited a d' mem' q p s' h = record {
      answer = p.answer ∙ sym (ap (λ (x : calls.Out). x.answer) past);
      after = λ f. p.change.document ∙ sym (ap (λ (x : calls.Out). x.doc) past);
      kept = λ f. absurd (true≢false (sym f ∙ q));
      limits = p.change.limits;
      lent = p.change.size;
      beyond = p.change.past;
      cleared = h;
    }

    -- nothing was to be changed
    pub remains : (a : Answered) → is_refusal a ≡ false → Performed c d mem a d mem → (s' : List ℕ) → s' ≡ scratch_after d mem s → Edits c d mem s a d mem s'
    remains a q p s' h = edited a d mem q p s' h

    -- the memory that was lent to the edit is what it left
    pub performs : (a : Answered) (l m : Lent) → l.document ≡ d → l.words.now ≡ mem → is_refusal a ≡ false → Performs c l m a → (mem' : List ℕ) → mem' ≡ m.words.now → (s' : List ℕ) → s' ≡ scratch_after d mem s
        → Edits c d mem s a m.document mem' s'
    performs a l m ed em q p mem' e s' h = edited a m.document mem' q (rw (ed, em, ← e) at p.performed) s' h

    -- where the edit is a step, and the step the call
    pub steps : (a : Answered) (l m : Lent) → l.document ≡ d → l.words.now ≡ mem → is_refusal a ≡ false → (D : Doc) → Stepped l m D
        → ((r : Document) (mem' : List ℕ) → Step d mem r mem' D → Performed c d mem a r mem') → (mem' : List ℕ) → mem' ≡ m.words.now → (s' : List ℕ) → s' ≡ scratch_after d mem s
        → Edits c d mem s a m.document mem' s'
    steps a l m ed em q D p f mem' e s' h = edited a m.document mem' q (f m.document mem' (rw (ed, em, ← e) at p.step)) s' h

-- the plan accepted
pub admits : (c : Call) (d : Document) (mem s : List ℕ) (v : View) → (v.document ≡ d) × (v.words.now ≡ mem) × Ready d mem s → 0 ≡ refusal_number (step c (decoded v)).answer → Admitted c d mem
admits c d mem s v r e = record { undamaged = r.2.undamaged; accepted = (numbered (decode d mem) c).accepted (sym (seen c d mem s v r 0 e)) }

-- scratch fits the limits
pub scratch-enough : (d : Document) (mem s : List ℕ) → Ready d mem s → scratch_words (limits_of d.limits) ≤ length s
unfolding buffers_ok
scratch-enough d mem s r = leb-true _ _ (and_right (memory_ok d (length mem)) (leb (scratch_words (limits_of d.limits)) (length s)) r.buffers)

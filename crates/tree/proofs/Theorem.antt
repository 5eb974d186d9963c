-- Demand 3 over the contracts: what each call promises makes a list of events a list of calls on the document, which the plain tree explains.
-- Assumes nothing.
use mathlib.Core.Path.{◌≡◌, refl, sym, ap, ◌∙◌, subst}
use mathlib.Core.Logic.{◌≢◌, ◌⊎◌, inl, inr}
use mathlib.Core.Bool.{Bool, true, false, ◌&&◌, cond, true≢false}
use mathlib.Core.List.{List, [], ◌∷◌}
use Prim.Native.Nat.{ℕ, ◌<◌}
use native.Mathlib.Omega.{arith}
use borrow.Author.Tests.{ne_eqb}
use lib.Dec.{eqb, leb}
use lib.ListN.{length}
use Rattle.words.proofs.Tests.{and_left}
use Rattle.words.specs.Lists.{all}
use Rattle.model.specs.Doc.{Doc, limits_ok, root_handle, resolves}
use Rattle.model.specs.Resolving.{handles_of}
use Rattle.model.specs.Calls.{Call, Answered, refused, is_refusal, answers, step, append-element, append-text, append-comment, append-pi, set-text, set-attribute, remove-attribute, declare-namespace, remove, detach, reparent, insert-at, document-order, compact, root-of, kind-of, parent-of, children-of, root-element, is-element, name_of, attribute-nodes, namespace-nodes, nodes, order-key}
use Rattle.model.specs.Calls as calls
use Rattle.model.specs.RulesTest.{rules_hold}
use Rattle.model.specs.Tree.{Tree, seed}
use Rattle.model.specs.Tree as tree
use Rattle.laws.specs.Claim.{Agrees, Explains, no_step, handle_told}
use Rattle.laws.specs.Claim as model
use Rattle.laws.proofs.Wf.{WF}
use Rattle.laws.proofs.Sim.{Sim}
use Rattle.laws.proofs.SimSeed.{sim-seed}
use Rattle.laws.proofs.WfEdits.{wf-seed}
use Rattle.laws.proofs.RulesOfSim.{rules-of-sim}
use Rattle.laws.proofs.RulesTest.{test-of-rules}
use Rattle.laws.proofs.Explained.{explains}
use Rattle.laws.proofs.Refusals as refusals
use Rattle.laws.proofs.RefusalNumbers.{Tested, tested}
use Rattle.laws.proofs.Runs.{next}
use Rattle.laws.proofs.Theorem.{one-call}
use Rattle.laws.proofs.Told as given-told
use Rattle.layout.specs.declared.Document.{Document}
use Rattle.layout.specs.declared.Limits as given
use Rattle.layout.specs.Layout.{limits_of, document_words, memory_ok, buffers_ok}
use Rattle.memory.specs.Decode.{decode}
use Rattle.reading.specs.Contract.{reads}
use Rattle.editing.specs.Contract.{is_editing, outcome, Edits}
use Rattle.tree.specs.Contract.{startable, Starts}
use Rattle.tree.specs.Claim.{Event, Promised, PromisedBy, Called, tree_after, out_of, Tells, last_record, last_memory, tree_end, Holds, PlainTree, DemandThree}

-- a reading call leaves the document
reading-keeps : (c : Call) (d : Doc) → is_editing c ≡ false → (step c d).doc ≡ d
reading-keeps (append-element p ns local) d e = absurd (true≢false e)
reading-keeps (append-text p s) d e = absurd (true≢false e)
reading-keeps (append-comment p s) d e = absurd (true≢false e)
reading-keeps (append-pi p s t) d e = absurd (true≢false e)
reading-keeps (set-text h s) d e = absurd (true≢false e)
reading-keeps (set-attribute h ns local value) d e = absurd (true≢false e)
reading-keeps (remove-attribute h ns local) d e = absurd (true≢false e)
reading-keeps (declare-namespace h prefix uri) d e = absurd (true≢false e)
reading-keeps (remove h) d e = absurd (true≢false e)
reading-keeps (detach h) d e = absurd (true≢false e)
reading-keeps (reparent c p) d e = absurd (true≢false e)
reading-keeps (insert-at p i c) d e = absurd (true≢false e)
reading-keeps document-order d e = absurd (true≢false e)
reading-keeps compact d e = absurd (true≢false e)
reading-keeps root-of d e = refl
reading-keeps (kind-of h) d e = refl
reading-keeps (parent-of h) d e = refl
reading-keeps (children-of h) d e = refl
reading-keeps root-element d e = refl
reading-keeps (is-element h) d e = refl
reading-keeps (name_of n) d e = refl
reading-keeps (attribute-nodes h) d e = refl
reading-keeps (namespace-nodes h) d e = refl
reading-keeps nodes d e = refl
reading-keeps (order-key h) d e = refl

-- a handle of the call is stale
abbrev StaleIn : Doc → Call → Type 0
StaleIn D c = all (resolves D) (handles_of c) ≡ false

not-damaged : (S : Type 0) (a : Answered) → Tested S a → a ≢ refused 5
not-damaged S (refused n) t e = t.1 (let q : n ≡ 5 = cc in q)
not-damaged S calls.done t e = (let z : ◌≡◌ {A = ℕ} 0 1 = cc in omega arith)
not-damaged S (calls.made h) t e = (let z : ◌≡◌ {A = ℕ} 0 1 = cc in omega arith)
not-damaged S (calls.truth b) t e = (let z : ◌≡◌ {A = ℕ} 0 1 = cc in omega arith)
not-damaged S (calls.node h) t e = (let z : ◌≡◌ {A = ℕ} 0 1 = cc in omega arith)
not-damaged S (calls.listed r l) t e = (let z : ◌≡◌ {A = ℕ} 0 1 = cc in omega arith)
not-damaged S (calls.every_node l) t e = (let z : ◌≡◌ {A = ℕ} 0 1 = cc in omega arith)
not-damaged S (calls.kind_is k a n) t e = (let z : ◌≡◌ {A = ℕ} 0 1 = cc in omega arith)
not-damaged S (calls.name_is n) t e = (let z : ◌≡◌ {A = ℕ} 0 1 = cc in omega arith)
not-damaged S (calls.key k) t e = (let z : ◌≡◌ {A = ℕ} 0 1 = cc in omega arith)
not-damaged S (calls.keys l) t e = (let z : ◌≡◌ {A = ℕ} 0 1 = cc in omega arith)

-- an accepted call is a step of the plain tree
pub accepted-steps : (a : Answered) → is_refusal a ≡ false → no_step a ≡ false
accepted-steps (refused n) e = absurd (true≢false e)
accepted-steps calls.done e = refl
accepted-steps (calls.made h) e = refl
accepted-steps (calls.truth b) e = refl
accepted-steps (calls.node h) e = refl
accepted-steps (calls.listed r l) e = refl
accepted-steps (calls.every_node l) e = refl
accepted-steps (calls.kind_is k a n) e = refl
accepted-steps (calls.name_is n) e = refl
accepted-steps (calls.key k) e = refl
accepted-steps (calls.keys l) e = refl

-- an event that was refused 4 and changed nothing, or one that made the call's step on the document
pub data Made (d : Document) (mem : List ℕ) (e : Event) : Type 0 where
  nothing : e.answer ≡ refused 4 → e.document ≡ d → e.memory ≡ mem → Made d mem e
  stepped : out_of e ≡ step e.call (decode d mem) → memory_ok e.document (length e.memory) ≡ true → Made d mem e

module _ (d : Document) (mem : List ℕ) (e : Event) (fits : memory_ok d (length mem) ≡ true) (rules : rules_hold (decode d mem) ≡ true) where
  same_out : (a : Answered) (D : Doc) (o : calls.Out) → a ≡ o.answer → D ≡ o.doc → answers D a ≡ o
  same_out a D o p q = λ i. record { doc = q i; answer = p i }

  same_size : (f : Document) (m : List ℕ) → f.limits ≡ d.limits → length m ≡ length mem → memory_ok f (length m) ≡ true
  unfolding memory_ok
  same_size f m p q =
      ap (λ (l : given.Limits). limits_ok (limits_of l) && leb (document_words (limits_of l)) (length m)) p
      ∙ ap (λ (n : ℕ). limits_ok (limits_of d.limits) && leb (document_words (limits_of d.limits)) n) q ∙ fits

  edited : Edits e.call d mem e.scratch e.answer e.document e.memory e.scratch_after → Made d mem e
  unfolding outcome
  edited p = go (buffers_ok d (length mem) (length e.scratch)) refl
    where
      D : Doc
      D = decode d mem

      again : (m : List ℕ) (f : Document) → (m ≡ mem) × (f ≡ d) → decode f m ≡ D
      again m f q = ap (λ (x : Document). decode x m) q.1 ∙ ap (decode d) q.0

      doc-after : (r : Bool) → is_refusal e.answer ≡ r → e.answer ≡ (step e.call D).answer
          → (is_refusal e.answer ≡ false → decode e.document e.memory ≡ (step e.call D).doc) → decode e.document e.memory ≡ (step e.call D).doc
      doc-after false f a h = h f
      doc-after true f a h =
          again e.memory e.document (p.kept f) ∙ sym (refusals.refusal-keeps e.call D (sym (ap is_refusal a) ∙ f))

      go : (q : Bool) → buffers_ok d (length mem) (length e.scratch) ≡ q → Made d mem e
      go false f =
          let a : e.answer ≡ refused 4 = p.answer ∙ rw f in
          let k = p.kept (ap is_refusal a) in
          nothing a k.1 k.0
      go true f =
          let a : e.answer ≡ (step e.call D).answer = p.answer ∙ rw (f, rules) in
          let h : is_refusal e.answer ≡ false → decode e.document e.memory ≡ (step e.call D).doc = λ r. p.after r ∙ rw (f, rules) in
          stepped (same_out e.answer (decode e.document e.memory) (step e.call D) a (doc-after (is_refusal e.answer) refl a h)) (same_size e.document e.memory p.limits p.lent)

  read : is_editing e.call ≡ false → ((e.answer ≡ reads e.call d mem) ⊎ ((e.call ≡ nodes) × (e.answer ≡ refused 4))) × (e.document ≡ d) × (e.memory ≡ mem) → Made d mem e
  unfolding reads
  read r p = go p.0
    where
      go : (e.answer ≡ cond (memory_ok d (length mem)) (step e.call (decode d mem)).answer (refused 4)) ⊎ ((e.call ≡ nodes) × (e.answer ≡ refused 4)) → Made d mem e
      go (inr a) = nothing a.1 p.1 p.2
      go (inl a) =
          stepped
          (same_out e.answer (decode e.document e.memory) (step e.call (decode d mem)) (a ∙ rw fits)
          (ap (λ (x : Document). decode x e.memory) p.1 ∙ ap (decode d) p.2 ∙ sym (reading-keeps e.call (decode d mem) r)))
          (ap (λ (x : Document). memory_ok x (length e.memory)) p.1 ∙ ap (λ (m : List ℕ). memory_ok d (length m)) p.2 ∙ fits)

  pub made : Promised d mem e → Made d mem e
  made p = go (is_editing e.call) refl p
    where
      go : (q : Bool) → is_editing e.call ≡ q → PromisedBy q d mem e → Made d mem e
      go true f p = edited p
      go false f p = read f p

-- ---- one event against the plain tree

module _ (hs : ℕ → ℕ) where
  -- what holds between a memory and the tree
  pub record Stands (d : Document) (mem : List ℕ) (t : Tree) : Type 0 where
    pub sim : Sim (decode d mem) t hs
    pub wf : WF t
    pub fits : memory_ok d (length mem) ≡ true

  pub sound : {d : Document} {mem : List ℕ} {t : Tree} → Stands d mem t → rules_hold (decode d mem) ≡ true
  sound {d} {mem} {t} S = test-of-rules (decode d mem) (rules-of-sim (decode d mem) t hs S.sim S.wf)

  abbrev Head : Event → Tree → Type 0
  Head e t = t.births < (tree_after hs e t).births → hs t.births ≡ handle_told e.call (out_of e)

  abbrev pub After : Event → Tree → Type 0
  After e t =
      Stands e.document e.memory (tree_after hs e t) × (e.answer ≢ refused 5)
      × (no_step e.answer ≡ false → Agrees hs e.call (out_of e) (tree.step e.call hs t))

  pub one-event : (d : Document) (mem : List ℕ) (t : Tree) (e : Event) → Stands d mem t → Promised d mem e → Head e t → After e t
  one-event d mem t e S p told = go (made d mem e S.fits (sound S) p)
    where
      D : Doc
      D = decode d mem

      go : Made d mem e → After e t
      go (nothing a k m) =
          (rw (a, k, m) S, (λ f. (let z : ◌≡◌ {A = Answered} (refused 4) (refused 5) = sym a ∙ f in let q : ◌≡◌ {A = ℕ} 4 5 = cc in omega arith)), λ f. absurd (true≢false (sym (ap no_step a) ∙ f)))
      go (stepped o k) =
          let a : e.answer ≡ (step e.call D).answer = ap (λ (x : calls.Out). x.answer) o in
          let T = tested e.call D in
          let s : no_step e.answer ≡ no_step (step e.call D).answer = ap no_step a in
          let u : tree_after hs e t ≡ model.tree_after hs e.call D t = ap (λ (q : Bool). cond q t (tree.step e.call hs t).tree) s in
          let h : t.births < (model.tree_after hs e.call D t).births → hs t.births ≡ handle_told e.call (step e.call D) =
          λ lt. told (subst (λ (x : Tree). t.births < x.births) (sym u) lt) ∙ ap (handle_told e.call) o in
          let n = next hs (λ x y A B. explains x y hs A B) (one-call hs) e.call D t S.sim S.wf h in (
            record {
              sim = subst (λ (x : Tree). Sim (decode e.document e.memory) x hs) (sym u) (subst (λ (x : Doc). Sim x (model.tree_after hs e.call D t) hs) (sym (ap (λ (x : calls.Out). x.doc) o)) n.0);
              wf = subst WF (sym u) n.1;
              fits = k;
            },
            subst (λ (x : Answered). x ≢ refused 5) (sym a) (not-damaged (StaleIn D e.call) (step e.call D).answer T),
            λ f. subst (λ (x : calls.Out). Agrees hs e.call x (tree.step e.call hs t)) (sym o) (n.2 (sym s ∙ f)),
          )

  -- what stands before a list of calls stands at its end
  stands_from : (es : List Event) (d : Document) (mem : List ℕ) (t : Tree) → Stands d mem t → Called d mem es → Tells hs es t
      → Stands (last_record d es) (last_memory mem es) (tree_end hs es t)
  stands_from [] d mem t S c o = S
  stands_from (e ∷ es) d mem t S c o =
      stands_from es e.document e.memory (tree_after hs e t) (one-event d mem t e S c.0 o.0).0 c.1 o.1

  holds : (es : List Event) (d : Document) (mem : List ℕ) (t : Tree) → Stands d mem t → Called d mem es → Tells hs es t → Holds hs es d mem t
  holds [] d mem t S c o = explains (decode d mem) t hs S.sim S.wf
  holds (e ∷ es) d mem t S c o =
      let n = one-event d mem t e S c.0 o.0 in
      (explains (decode d mem) t hs S.sim S.wf, n.1, n.2, holds es e.document e.memory (tree_after hs e t) n.0 c.1 o.1)

-- ---- handles can be told

-- the calls that test 4 let through
abbrev is_four : Answered → Bool
is_four (refused n) = eqb n 4
is_four calls.done = false
is_four (calls.made h) = false
is_four (calls.truth b) = false
is_four (calls.node h) = false
is_four (calls.listed r l) = false
is_four (calls.every_node l) = false
is_four (calls.kind_is k a n) = false
is_four (calls.name_is n) = false
is_four (calls.key k) = false
is_four (calls.keys l) = false

abbrev calls_of : List Event → List Call
calls_of [] = []
calls_of (e ∷ es) = cond (is_four e.answer) (calls_of es) (e.call ∷ calls_of es)

tested-four : (S : Type 0) (a : Answered) → Tested S a → is_four a ≡ false
tested-four S (refused n) t = ne_eqb n 4 t.0
tested-four S calls.done t = refl
tested-four S (calls.made h) t = refl
tested-four S (calls.truth b) t = refl
tested-four S (calls.node h) t = refl
tested-four S (calls.listed r l) t = refl
tested-four S (calls.every_node l) t = refl
tested-four S (calls.kind_is k a n) t = refl
tested-four S (calls.name_is n) t = refl
tested-four S (calls.key k) t = refl
tested-four S (calls.keys l) t = refl

module _ (hs : ℕ → ℕ) where
  -- handles told for the calls on the document are told for the events
  tells : (es : List Event) (d : Document) (mem : List ℕ) (t : Tree) → Stands hs d mem t → Called d mem es → model.Tells hs (calls_of es) (decode d mem) t → Tells hs es t
  tells [] d mem t S c o = tt
  tells (e ∷ es) d mem t S c o =
      go (made d mem e S.fits (sound hs S) c.0) o (λ h r. tells es e.document e.memory (tree_after hs e t) (one-event hs d mem t e S c.0 h).0 c.1 r)
    where
      D : Doc
      D = decode d mem

      go : Made d mem e → model.Tells hs (cond (is_four e.answer) (calls_of es) (e.call ∷ calls_of es)) D t
          → (Head hs e t → model.Tells hs (calls_of es) (decode e.document e.memory) (tree_after hs e t) → Tells hs es (tree_after hs e t))
          → Head hs e t × Tells hs es (tree_after hs e t)
      go (nothing a k m) o rest =
          let u : tree_after hs e t ≡ t = ap (λ (x : Answered). cond (no_step x) t (tree.step e.call hs t).tree) a in
          let h : Head hs e t = λ lt. absurd (let l : t.births < t.births = subst (λ (x : Tree). t.births < x.births) u lt in omega arith) in
          let w : decode e.document e.memory ≡ D = ap (λ (x : Document). decode x e.memory) k ∙ ap (decode d) m in
          let o' : model.Tells hs (calls_of es) D t = subst (λ (q : Bool). model.Tells hs (cond q (calls_of es) (e.call ∷ calls_of es)) D t) (ap is_four a) o in
          (h, rest h (subst (λ (x : Tree). model.Tells hs (calls_of es) (decode e.document e.memory) x) (sym u) (subst (λ (x : Doc). model.Tells hs (calls_of es) x t) (sym w) o')))
      go (stepped q k) o rest =
          let a : e.answer ≡ (step e.call D).answer = ap (λ (x : calls.Out). x.answer) q in
          let T = tested e.call D in
          let s : no_step e.answer ≡ no_step (step e.call D).answer = ap no_step a in
          let u : tree_after hs e t ≡ model.tree_after hs e.call D t = ap (λ (x : Bool). cond x t (tree.step e.call hs t).tree) s in
          let f : is_four e.answer ≡ false = ap is_four a ∙ tested-four (StaleIn D e.call) (step e.call D).answer T in
          let o' : model.Tells hs (e.call ∷ calls_of es) D t = subst (λ (x : Bool). model.Tells hs (cond x (calls_of es) (e.call ∷ calls_of es)) D t) f o in
          let h : Head hs e t = λ lt. o'.0 (subst (λ (x : Tree). t.births < x.births) u lt) ∙ sym (ap (handle_told e.call) q) in
          (h, rest h (subst (λ (x : Tree). model.Tells hs (calls_of es) (decode e.document e.memory) x) (sym u) (subst (λ (x : Doc). model.Tells hs (calls_of es) x (model.tree_after hs e.call D t)) (sym (ap (λ (x : calls.Out). x.doc) q)) o'.1)))

-- ---- the theorem

module _ (l : given.Limits) (mem mem' : List ℕ) (d : Document) (S : Starts l mem calls.done d mem') where
  start_fits : startable l (length mem) ≡ true
  start_fits = go (startable l (length mem)) S.answer
    where
      go : (t : Bool) → ◌≡◌ {A = Answered} calls.done (cond t calls.done (refused 4)) → t ≡ true
      go true e = refl
      go false e = absurd (let z : ◌≡◌ {A = ℕ} 0 1 = cc in omega arith)

  limits-fit : limits_ok (limits_of l) ≡ true
  unfolding startable
  limits-fit = and_left (limits_ok (limits_of l)) (leb (document_words (limits_of l)) (length mem)) start_fits

  pub fresh-stands : (hs : ℕ → ℕ) → hs 0 ≡ root_handle → Stands hs d mem' seed
  unfolding startable memory_ok
  fresh-stands hs root =
      record {
        sim = subst (λ (x : Doc). Sim x seed hs) (sym (S.laid refl).0) (sim-seed (limits_of l) hs limits-fit root);
        wf = wf-seed;
        fits =
            ap (λ (x : given.Limits). limits_ok (limits_of x) && leb (document_words (limits_of x)) (length mem')) (S.laid refl).1
            ∙ ap (λ (n : ℕ). limits_ok (limits_of l) && leb (document_words (limits_of l)) n) S.lent ∙ start_fits;
      }

  -- what an accepted Start leaves, and any list of calls after it
  pub stands_after : (es : List Event) → Called d mem' es → (hs : ℕ → ℕ) (root : hs 0 ≡ root_handle) → Tells hs es seed
      → Stands hs (last_record d es) (last_memory mem' es) (tree_end hs es seed)
  stands_after es c hs root o = stands_from hs es d mem' seed (fresh-stands hs root) c o

  pub explained : (es : List Event) → Called d mem' es → PlainTree d mem' es
  explained es c =
      record {
        told = (let o = given-told.told (limits_of l) (calls_of es) in
            (o.0, o.1, tells o.0 es d mem' seed (fresh-stands o.0 o.1) c (subst (λ (x : Doc). model.Tells o.0 (calls_of es) x seed) (sym (S.laid refl).0) o.2)));
        claim = λ hs root o. holds hs es d mem' seed (fresh-stands hs root) c o;
      }

pub demand-three : DemandThree
demand-three l mem mem' d S es c = explained l mem mem' d S es c

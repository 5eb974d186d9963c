-- Demand 3 over the document: the plain tree explains every list of calls.
-- Assumes nothing.
use Prim.Native.Nat.{ℕ}
use Rattle.model.specs.Doc.{Doc, fresh}
use Rattle.model.specs.Calls.{Call, append-element, append-text, append-comment, append-pi, set-text, set-attribute, remove-attribute, declare-namespace, remove, detach, reparent, insert-at, document-order, compact, root-of, kind-of, parent-of, children-of, root-element, is-element, name_of, attribute-nodes, namespace-nodes, nodes, order-key}
use Rattle.model.specs.Calls as calls
use Rattle.model.specs.Tree.{Tree, seed}
use Rattle.model.specs.Tree as tree
use Rattle.laws.specs.Claim.{DemandThree}
use Rattle.laws.proofs.Wf.{WF}
use Rattle.laws.proofs.Sim.{Sim}
use Rattle.laws.proofs.SimSeed.{sim-seed}
use Rattle.laws.proofs.WfEdits.{wf-seed}
use Rattle.laws.proofs.Explained.{explains}
use Rattle.laws.proofs.Told.{told}
use Rattle.laws.proofs.Matching.{Matches}
use Rattle.laws.proofs.Runs.{Told, every-run}
use Rattle.laws.proofs.StepsReading.{step-root, step-kind, step-parent, step-children, step-root-element, step-is-element, step-name, step-attribute-nodes, step-namespace-nodes, step-nodes, step-order-key}
use Rattle.laws.proofs.StepsAppending.{step-append-element, step-append-text, step-append-comment, step-append-pi}
use Rattle.laws.proofs.StepsTexts.{step-set-text, step-set-attribute, step-declare-namespace}
use Rattle.laws.proofs.StepsRemoving.{step-remove, step-remove-attribute}
use Rattle.laws.proofs.StepsMoving.{step-detach, step-reparent, step-insert}
use Rattle.laws.proofs.StepsOrder.{step-document-order, step-compact}

-- one call
pub one-call : (hs : ℕ → ℕ) (c : Call) (d : Doc) (t : Tree) → Sim d t hs → WF t → Told hs c d t → Matches hs c d (calls.step c d) (tree.step c hs t)
one-call hs (append-element p ns local) d t S W o = step-append-element d t hs S W ns local p o
one-call hs (append-text p s) d t S W o = step-append-text d t hs S W s p o
one-call hs (append-comment p s) d t S W o = step-append-comment d t hs S W s p o
one-call hs (append-pi p target content) d t S W o = step-append-pi d t hs S W target content p o
one-call hs (set-text h s) d t S W o = step-set-text d t hs S W s h
one-call hs (set-attribute e ns local value) d t S W o = step-set-attribute d t hs S W ns local value e o
one-call hs (remove-attribute e ns local) d t S W o = step-remove-attribute d t hs S W e ns local
one-call hs (declare-namespace e prefix uri) d t S W o = step-declare-namespace d t hs S W prefix uri e o
one-call hs (remove h) d t S W o = step-remove d t hs S W h
one-call hs (detach h) d t S W o = step-detach d t hs S W h
one-call hs (reparent c p) d t S W o = step-reparent d t hs S W c p
one-call hs (insert-at p i c) d t S W o = step-insert d t hs S W p i c
one-call hs document-order d t S W o = step-document-order d t hs S W
one-call hs compact d t S W o = step-compact d t hs S W
one-call hs root-of d t S W o = step-root d t hs S W
one-call hs (kind-of h) d t S W o = step-kind d t hs S W h
one-call hs (parent-of h) d t S W o = step-parent d t hs S W h
one-call hs (children-of h) d t S W o = step-children d t hs S W h
one-call hs root-element d t S W o = step-root-element d t hs S W
one-call hs (is-element h) d t S W o = step-is-element d t hs S W h
one-call hs (name_of n) d t S W o = step-name d t hs S W n
one-call hs (attribute-nodes h) d t S W o = step-attribute-nodes d t hs S W h
one-call hs (namespace-nodes h) d t S W o = step-namespace-nodes d t hs S W h
one-call hs nodes d t S W o = step-nodes d t hs S W
one-call hs (order-key h) d t S W o = step-order-key d t hs S W h

pub demand-three : DemandThree
demand-three l ok cs =
    record {
      told = told l cs;
      claim = λ hs root tells. every-run hs (λ d t S W. explains d t hs S W) (one-call hs) cs (fresh l) seed (sim-seed l hs ok root) wf-seed tells;
    }

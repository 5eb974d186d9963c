-- The walk after every list of calls, over what they promise.
-- Assumes nothing.
use Rattle.std.specs.Prelude.{Result, Ok, Some}
use Rattle.model.specs.declared.Refusal.{Refusal}
use mathlib.Core.Path.{◌≡◌, ap, ◌∙◌}
use mathlib.Core.Bool.{true}
use mathlib.Core.List.{List, map}
use Prim.Native.Nat.{ℕ, ◌≤◌}
use borrow.Author.Tests.{le-leb}
use lib.ListN.{length, length-map}
use Rattle.words.specs.Parts.{put}
use Rattle.layout.specs.declared.Document.{Document}
use Rattle.layout.specs.Layout.{memory_ok}
use Rattle.memory.specs.Decode.{decode}
use Rattle.model.specs.Tree.{seed}
use Rattle.tree.specs.Claim.{tree_end}
use Rattle.tree.proofs.Theorem.{stands_after}
use Rattle.descendants.specs.Walking.{descendants, walked}
use Rattle.descendants.specs.Contract.{count_below, written_below}
use Rattle.descendants.specs.Claim.{WalkUnderZone}
use Rattle.descendants.proofs.Walks.{walked_all, handles-once}
use Rattle.descendants.proofs.InOrder.{ordered}
use Rattle.descendants.proofs.Anywhere.{by-calls}

-- what `list_below` answers and writes, from what the walk lists
written : (d : Document) (mem : List ℕ) (h : ℕ) → memory_ok d (length mem) ≡ true → (hs : ℕ → ℕ) (l : List ℕ) → walked (decode d mem) h ≡ map hs l
    → (out : List ℕ) → d.limits.nodes ≤ length out → (count_below d mem h out ≡ Ok (length l)) × (written_below d mem h out ≡ put 0 (map hs l) out)
unfolding count_below written_below
written d mem h ok hs l e out room =
    (rw (ok, le-leb d.limits.nodes (length out) room, e) (ap {B = Result ℕ Refusal} Ok (length-map l hs)), rw (ok, le-leb d.limits.nodes (length out) room, e))

pub walk-under-zone : WalkUnderZone
walk-under-zone l mem mem' d S es c hs root o b lb =
    let s = stands_after l mem mem' d S es c hs root o in
    let w = walked_all s.sim s.wf b lb in
    record {
      steps = by-calls _ _ s.fits (hs b) ∙ ap Some w;
      whole = written _ _ (hs b) s.fits hs (descendants (tree_end hs es seed) b) w;
      once = handles-once s.sim s.wf b lb;
      ordered = ordered s.wf b lb;
    }

-- The calls that move a node: what they ask and what they do follows from what their plans decided.
-- Assumes nothing.
use Rattle.std.specs.Prelude.{Option, None, Some}
use mathlib.Core.Path.{◌≡◌, refl}
use mathlib.Core.Bool.{true, false}
use mathlib.Core.List.{List}
use Prim.Native.Nat.{ℕ}
use lib.ListN.{length}
use Rattle.model.specs.Kinds.{children}
use Rattle.model.specs.Doc.{Doc, or_else, list_at, view_at, on_path, resolves}
use Rattle.model.specs.Edits.{unhook, attach}
use Rattle.model.specs.Arguments.{first}
use Rattle.model.specs.Checks.{container, a_child, check_detach, check_move}
use Rattle.model.specs.Calls.{detach, reparent, insert-at, done, Out, answers, is_refusal, root_taken, room_fits, full_unless, move_to}
use Rattle.laws.proofs.Guards.{first-zero}
use Rattle.layout.specs.declared.Document.{Document}
use Rattle.memory.specs.Decode.{decode}
use Rattle.memory.specs.Step.{Step}
use Rattle.memory.specs.Undamaged.{Undamaged}
use Rattle.memory.specs.Performed.{Admitted, Performed}
use Rattle.edits.specs.Asked.{Hooked, Movable}
use Rattle.edits.proofs.Ready.{rules-hooked, rules-movable}
use Rattle.edits.proofs.Accepted.{guard_passed, guard-open, checked-room, container-there, child-there, performed}

pub undamaged-hooked : (d : Document) (mem : List ℕ) (h : ℕ) → Undamaged d mem → resolves (decode d mem) h ≡ true → Hooked d mem h
undamaged-hooked d mem h u e = rules-hooked d mem u.memory u.rules h e

-- ---- detach

module _ (d : Document) (mem : List ℕ) (h : ℕ) (a : Admitted (detach h) d mem) where
  abbrev D : Doc
  D = decode d mem

  abbrev detached : Out
  detached = answers (unhook (decode d mem) h) done

  pub admitted-hooked : Hooked d mem h
  admitted-hooked = undamaged-hooked d mem h a.undamaged (child-there D h (guard_passed (check_detach (view_at D h)) D detached a.accepted))

  pub detach-performed : (r : Document) (mem' : List ℕ) → Step d mem r mem' (unhook (decode d mem) h) → Performed (detach h) d mem done r mem'
  detach-performed r mem' s = performed (detach h) d mem detached (guard-open (check_detach (view_at D h)) D detached a.accepted) done refl r mem' s

-- ---- the two moves

module _ (d : Document) (mem : List ℕ) (p h : ℕ) (u : Undamaged d mem) (at : Option ℕ) (e : is_refusal (move_to (decode d mem) p at h).answer ≡ false) where
  abbrev D₀ : Doc
  D₀ = decode d mem

  abbrev alone : Doc
  alone = unhook (decode d mem) h

  abbrev check : ℕ
  check = check_move (view_at D₀ h) (view_at D₀ p) (on_path (length D₀.gens) D₀ h p) (root_taken D₀ (Some h))

  abbrev moved : Out
  moved = answers (attach alone children p (or_else (length (list_at alone children p)) at) h) done

  move-movable : Movable d mem p h
  move-movable =
      let z = checked-room check (room_fits alone children p) D₀ moved e in
      let y = first-zero (a_child (view_at D₀ h)) _ z.0 in
      let x = container-there D₀ p (first-zero (container (view_at D₀ p)) _ y.1).0 in
      rules-movable d mem u.memory u.rules p h (child-there D₀ h y.0) x.0 x.1 z.1

  move-open : move_to (decode d mem) p at h ≡ moved
  move-open = guard-open (first check (full_unless (room_fits alone children p))) D₀ moved e

module _ (d : Document) (mem : List ℕ) (p h : ℕ) (a : Admitted (reparent h p) d mem) where
  pub admitted-last : Movable d mem p h
  admitted-last = move-movable d mem p h a.undamaged None a.accepted

  pub last-performed : (r : Document) (mem' : List ℕ)
      → Step d mem r mem' (attach (unhook (decode d mem) h) children p (length (list_at (unhook (decode d mem) h) children p)) h)
      → Performed (reparent h p) d mem done r mem'
  last-performed r mem' s = performed (reparent h p) d mem _ (move-open d mem p h a.undamaged None a.accepted) done refl r mem' s

module _ (d : Document) (mem : List ℕ) (p i h : ℕ) (a : Admitted (insert-at p i h) d mem) where
  pub admitted-at : Movable d mem p h
  admitted-at = move-movable d mem p h a.undamaged (Some i) a.accepted

  pub at-performed : (r : Document) (mem' : List ℕ) → Step d mem r mem' (attach (unhook (decode d mem) h) children p i h)
      → Performed (insert-at p i h) d mem done r mem'
  at-performed r mem' s = performed (insert-at p i h) d mem _ (move-open d mem p h a.undamaged (Some i) a.accepted) done refl r mem' s

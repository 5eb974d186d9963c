-- A node taken off its parent, then freed with all below it.
-- Assumes nothing.
use mathlib.Core.Path.{◌≡◌, sym, subst}
use mathlib.Core.Bool.{true}
use mathlib.Core.List.{List}
use Prim.Native.Nat.{ℕ, ◌≤◌}
use native.Mathlib.Omega.{arith}
use lib.ListN.{length}
use Rattle.texts.specs.Pool.{reclaimed}
use Rattle.model.specs.Doc.{Doc, resolves}
use Rattle.model.specs.Rules.{Rules}
use Rattle.model.specs.Edits.{unhook, subtree, free_all}
use Rattle.model.specs.Calls.{removed}
use Rattle.layout.specs.declared.Limits.{Limits}
use Rattle.layout.specs.declared.Document.{Document}
use Rattle.layout.specs.Layout.{limits_of, scratch_words, memory_ok}
use Rattle.memory.specs.Decode.{pool_in, names_in, lengths_add, decode}
use Rattle.memory.specs.Step.{Step}
use Rattle.memory.proofs.Columns.{length-gens}
use Rattle.layout.proofs.Sizes.{sizes}
use Rattle.memory.proofs.Shaped.{shape}
use Rattle.edits.specs.Asked.{Hooked}
use Rattle.edits.specs.Pooled.{set_pool}
use Rattle.edits.proofs.Composed.{step-as, step-next}
use Rattle.edits.proofs.Ready.{rules-hooked}
use Rattle.freeing.specs.Freed.{free_all_slots}
use Rattle.freeing.specs.Asked.{SubtreeFreeable, Reclaimable}
use Rattle.freeing.proofs.Room.{all-reclaimed}
use Rattle.freeing.proofs.Detached.{unhooked-freeable}

-- ---- the nodes are freed, then the bytes of their texts given back

module _ (d : Document) (mem : List ℕ) (h : ℕ) (S : SubtreeFreeable (decode d mem) h) (e : Document) (mem₁ : List ℕ)
    (s : Step d mem e mem₁ (free_all_slots (decode d mem) (subtree (decode d mem) h)) × Reclaimable (free_all_slots (decode d mem) (subtree (decode d mem) h))) where
  pub nodes-reclaimable : (scratch : ℕ) → d.limits.texts ≤ scratch → (e.limits.texts ≤ scratch) × Reclaimable (decode e mem₁)
  nodes-reclaimable scratch b = (
    subst (λ (l : Limits). l.texts ≤ scratch) (sym s.0.limits) b,
    subst Reclaimable (sym s.0.document) s.1,
  )

  pub subtree-freed : (r : Document) (mem₂ : List ℕ) → Step e mem₁ r mem₂ (set_pool (decode e mem₁) (reclaimed (decode e mem₁).pool))
      → Step d mem r mem₂ (free_all (decode d mem) (subtree (decode d mem) h))
  subtree-freed r mem₂ t =
      let E = free_all_slots (decode d mem) (subtree (decode d mem) h) in
      step-as d mem r mem₂ (set_pool E (reclaimed E.pool)) (free_all (decode d mem) (subtree (decode d mem) h))
      (step-next d mem e mem₁ E s.0 (λ (x : Doc). set_pool x (reclaimed x.pool)) r mem₂ t)
      (all-reclaimed (decode d mem) S.freeable (subtree (decode d mem) h))

-- ---- the whole

scratch-held : (d : Document) (scratch : ℕ) → scratch_words (limits_of d.limits) ≤ scratch → (d.limits.nodes ≤ scratch) × (d.limits.texts ≤ scratch)
unfolding scratch_words
scratch-held d scratch b = (omega arith, omega arith)

module _ (d : Document) (mem : List ℕ) (ok : memory_ok d (length mem) ≡ true) (R : Rules (decode d mem)) (h : ℕ) (lh : resolves (decode d mem) h ≡ true) where
  pub node-hooked : Hooked d mem h
  node-hooked = rules-hooked d mem ok R h lh

  module _ (e : Document) (mem₁ : List ℕ) (s : Step d mem e mem₁ (unhook (decode d mem) h)) where
    pub alone-freeable : (scratch : ℕ) → scratch_words (limits_of d.limits) ≤ scratch → (e.limits.nodes ≤ scratch) × (e.limits.texts ≤ scratch) × SubtreeFreeable (decode e mem₁) h
    alone-freeable scratch b =
        let z = scratch-held d scratch b in (
          subst (λ (l : Limits). l.nodes ≤ scratch) (sym s.limits) z.0,
          subst (λ (l : Limits). l.texts ≤ scratch) (sym s.limits) z.1,
          subst (λ (x : Doc). SubtreeFreeable x h) (sym s.document)
              (unhooked-freeable (decode d mem) R (shape (pool_in d mem) (names_in d mem) (lengths_add d mem) d mem ok)
              (omega (arith, length-gens (pool_in d mem) (names_in d mem) (lengths_add d mem) d mem, (sizes d (length mem) ok).nodes)) h lh),
        )

    pub node-removed : (r : Document) (mem₂ : List ℕ) → Step e mem₁ r mem₂ (free_all (decode e mem₁) (subtree (decode e mem₁) h)) → Step d mem r mem₂ (removed (decode d mem) h)
    node-removed r mem₂ t = step-next d mem e mem₁ (unhook (decode d mem) h) s (λ (x : Doc). free_all x (subtree x h)) r mem₂ t

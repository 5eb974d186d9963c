-- The walk over the tree of a slot as the code does it: the trees before may have been laid of any document.
-- Assumes nothing.
use Rattle.std.specs.List.{slice_get}
use Rattle.std.specs.Prelude.{None, Some}
use mathlib.Core.Path.{◌≡◌, refl, sym, ap, ◌∙◌, subst}
use mathlib.Core.Bool.{Bool, true, false, ◌&&◌}
use mathlib.Core.List.{List}
use Prim.Native.Nat.{ℕ, ◌+◌, ◌-◌, ◌≤◌, ◌<◌}
use native.Mathlib.Omega.{arith}
use native.Mathlib.Numerals.{add-one}
use lib.ListN.{length, set, replicate}
use Rattle.blocks.specs.Compact.{copied}
use Rattle.blocks.proofs.Copies.{copied_none}
use Rattle.records.specs.Handles.{handle_index}
use Rattle.model.specs.Kinds.{Which, children, attributes, namespaces}
use Rattle.model.specs.Doc.{Doc, live_slot, handle_at, parent_in, list_in, is_none}
use Rattle.model.specs.Rules.{Rules}
use Rattle.model.specs.Edits.{laying_from}
use Rattle.layout.specs.declared.Document.{Document}
use Rattle.layout.specs.Layout.{limits_of, entries_of, memory_ok}
use Rattle.memory.specs.Decode.{slots_made, arena_part, arena_used, arena_in, decode}
use Rattle.layout.proofs.Sizes.{limits-fit, memory-limits, sizes}
use Rattle.memory.proofs.Shaped.{length-arena_part, length_ids, length-caps}
use Rattle.walks.specs.Order.{ListHeld}
use Rattle.walks.specs.Stack.{Stacked, stacked, pushed, popped}
use Rattle.compaction.specs.declared.copy.Lengths.{Lengths}
use Rattle.compaction.specs.Copies.{length_of, no_lengths, copies_in, Copies, NodeLayable, node_laid, TreesLaid, TreeAhead, NextLaid}
use Rattle.compaction.proofs.Growing as growing
use Rattle.compaction.proofs.Growing.{FromRules, Growing, Started, made-few}
use Rattle.compaction.proofs.MetNodes.{rebuilt-skip}
use Rattle.compaction.proofs.Layings.{layings}

-- the tree ahead of any document of which the trees before were laid
module _ (d : Document) (o mem : List ℕ) (s : ℕ) (used : Lengths) (T : TreesLaid d o mem s used) where
  abbrev pub from-rules : FromRules d o
  from-rules = record { memory = T.memory; rules = T.rules }

  pub live-before : live_slot (decode d mem) s ≡ live_slot (decode d o) s
  live-before = ap (λ (x : Doc). live_slot x s) T.copies.document

  pub parent-before : parent_in (decode d mem) s ≡ parent_in (decode d o) s
  parent-before = ap (λ (x : Doc). parent_in x s) T.copies.document

  pub started : live_slot (decode d mem) s ≡ true → parent_in (decode d mem) s ≡ None → (word : ℕ) → word ≡ handle_at (decode d mem) s → Started d o from-rules s mem used word
  started l t word e = record {
    copies = T.copies;
    live = sym live-before ∙ l;
    top = sym parent-before ∙ t;
    handle = e ∙ ap (λ (x : Doc). handle_at x s) T.copies.document;
  }

pub some-room : (d : Document) (mem room : ℕ) → memory_ok d mem ≡ true → d.limits.nodes ≤ room → 0 < room
some-room d mem room ok h = let f = limits-fit (limits_of d.limits) (memory-limits d mem ok) in omega (arith, f.some-node)

module _ (d : Document) (mem₀ words : List ℕ) (s : ℕ) (laid₀ : Lengths) where
  pub record TreeTurn (mem : List ℕ) (stack : Stacked) (laid : Lengths) (left : ℕ) : Type 0 where
    pub grows : (o : List ℕ) (F : FromRules d o) (i : ℕ) → Started d o F i mem₀ laid₀ (handle_at (decode d mem₀) s) → Growing d o F i (length words) mem stack laid left

  pub turn-first : (stack : Stacked) (word left : ℕ) → 0 < length words → stack ≡ stacked 1 (set words 0 word) → word ≡ handle_at (decode d mem₀) s → left ≡ slots_made d → TreeTurn mem₀ stack laid₀ left
  turn-first stack word left h q w e = record {
    grows = λ o F i S. growing.growing-first d o F i mem₀ words stack word laid₀ left h q e (subst (Started d o F i mem₀ laid₀) (sym w) S);
  }

  module _ (T : TreeAhead d mem₀ s laid₀) (mem : List ℕ) (stack : Stacked) (laid : Lengths) (left : ℕ) (I : TreeTurn mem stack laid left) where
    abbrev F : FromRules d T.origin
    F = from-rules d T.origin mem₀ s laid₀ T.trees

    G : Growing d T.origin F s (length words) mem stack laid left
    G = I.grows T.origin F s (started d T.origin mem₀ s laid₀ T.trees T.live T.top (handle_at (decode d mem₀) s) refl)

    module _ (word : ℕ) (top : Some word ≡ slice_get stack.entries 0) where
      pub turn-left : 1 ≤ left
      turn-left = growing.turn-left d T.origin F s (length words) mem stack laid left G word top

      pub turn-held : (k : ℕ) → k ≡ handle_index word → ListHeld d mem children k
      turn-held = growing.word_held d T.origin F s (length words) mem stack laid left G word top

      pub turn-layable : NodeLayable d mem word laid
      turn-layable = growing.word-layable d T.origin F s (length words) mem stack laid left G word top

      module _ (k : ℕ) (e : k ≡ handle_index word) (entries : List ℕ) (g : entries ≡ list_in (decode d mem) children k) (r : d.limits.nodes ≤ length words) where
        pub turn-room : length entries ≤ length (popped stack).free
        turn-room = growing.stack-room d T.origin F s (length words) mem stack laid left G word top k e entries g r

        pub turn-next : (stack' : Stacked) → stack' ≡ pushed entries (popped stack)
            → (mem' : List ℕ) (laid' : Lengths) → Copies d mem mem' laid' (node_laid (decode d mem) (copies_in d mem laid) word)
            → TreeTurn mem' stack' laid' (left - 1)
        turn-next stack' p mem' laid' C = record {
          grows = λ o F i S. growing.growing-next d o F i (length words) mem stack laid left (I.grows o F i S) word top k e entries g r stack' p mem' laid' C;
        }

    pub turn_last : None ≡ slice_get stack.entries 0 → NextLaid d mem₀ mem s laid₀ laid
    turn_last z = λ o A.
        growing.growing-last d o (from-rules d o mem₀ s laid₀ A) s (length words) mem stack laid left
        (I.grows o (from-rules d o mem₀ s laid₀ A) s (started d o mem₀ s laid₀ A T.live T.top (handle_at (decode d mem₀) s) refl)) z
        (sym (live-before d o mem₀ s laid₀ A) ∙ T.live) (sym (parent-before d o mem₀ s laid₀ A) ∙ T.top)

-- ---- slot by slot

-- a slot without a tree
pub no-tree : (d : Document) (mem : List ℕ) (s : ℕ) (used : Lengths) → s < slots_made d → (t : Bool) → t ≡ (live_slot (decode d mem) s && is_none (parent_in (decode d mem) s)) → t ≡ false
    → NextLaid d mem mem s used used
no-tree d mem s used b t q f = λ o T.
    let same : (live_slot (decode d o) s && is_none (parent_in (decode d o) s)) ≡ false = ap (λ (x : Doc). live_slot x s && is_none (parent_in x s)) (sym T.copies.document) ∙ sym q ∙ f in
    record {
      memory = T.memory;
      rules = T.rules;
      copies =
          subst (λ (k : List ℕ). Copies d o mem used (layings (decode d o) k))
          (sym (rebuilt-skip (decode d o) T.rules (made-few d o T.memory) s (let z = sizes d (length o) T.memory in omega (arith, z.nodes)) same)) T.copies;
    }

-- before the first slot
no_length : (w : Which) → length_of no_lengths w ≡ 0
no_length children = refl
no_length attributes = refl
no_length namespaces = refl

pub trees-none : (d : Document) (mem : List ℕ) → memory_ok d (length mem) ≡ true → Rules (decode d mem) → TreesLaid d mem mem 0 no_lengths
trees-none d mem ok R = record {
  memory = ok;
  rules = R;
  copies = record { size = refl; past = refl; document = refl; ids = λ w. refl; copies = none-copied };
}
  where
    none-copied : (w : Which) → copied (entries_of d.limits w) (length_of no_lengths w) (arena_part d w mem) ≡ (laying_from (decode d mem) w).arena
    none-copied w =
        ap (λ (k : ℕ). copied (entries_of d.limits w) k (arena_part d w mem)) (no_length w)
        ∙ copied_none (arena_part d w mem) (entries_of d.limits w) (length-arena_part d mem ok w) (arena_used d w)
        ∙ (λ i. record { ids = (arena_in d w mem).ids; caps = replicate ((length_ids d mem ok w ∙ sym (length-caps d mem ok w)) i) 0; used = 0 })

pub trees-next : (d : Document) (o mem mem' : List ℕ) (s : ℕ) (used used' : Lengths) → TreesLaid d o mem s used → NextLaid d mem mem' s used used' → TreesLaid d o mem' (s + 1) used'
trees-next d o mem mem' s used used' T N = subst (λ (k : ℕ). TreesLaid d o mem' k used') (sym (add-one s)) (N o T)

pub trees-last : (d : Document) (o mem : List ℕ) (s n : ℕ) (used : Lengths) → TreesLaid d o mem s used → n ≡ slots_made d → s ≤ n → n ≤ s → TreesLaid d o mem (slots_made d) used
trees-last d o mem s n used T e a b =
    let q : s ≡ slots_made d = omega arith in
    subst (λ (k : ℕ). TreesLaid d o mem k used) q T

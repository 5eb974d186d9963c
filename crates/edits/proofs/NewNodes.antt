-- A new node whose texts and name are stored first: the steps in a row are the model's one.
-- Assumes nothing.
use Rattle.words.specs.declared.TextSlot.{TextSlot}
use Rattle.std.specs.Prelude.{Option}
use mathlib.Core.Path.{◌≡◌, refl, sym, ap, ap₂, subst, ◌∙◌}
use mathlib.Core.Bool.{true}
use mathlib.Core.List.{List, [], ◌∷◌}
use Prim.Native.Nat.{ℕ, ◌<◌}
use native.Mathlib.Omega.{arith}
use lib.ListN.{length}
use Rattle.blocks.specs.Arena.{block}
use Rattle.words.proofs.Tests.{and_left, and_right}
use Rattle.records.specs.Fields.{CharsFit}
use Rattle.records.specs.Handles.{handle_index}
use Rattle.words.specs.declared.NameId.{NameId}
use Rattle.records.specs.declared.NodeData.{NodeData}
use Rattle.records.specs.declared.NodeData.TheVariants as given
use Rattle.records.specs.declared.Node.{Node}
use Rattle.texts.specs.Pool.{Pool}
use Rattle.names.specs.Table.{Name}
use Rattle.model.specs.Kinds.{Kind, Which, children, attributes, namespaces, is_element, owns}
use Rattle.model.specs.Doc.{Doc, list_at, kind_at, view_at}
use Rattle.model.specs.Edits.{next_from, next_handle, born_from, born, attach}
use Rattle.model.specs.Checks.{container, an_element}
use Rattle.model.specs.Calls.{Call, made, done, answers, step, slot_fits_from, slot_fits, room_fits, node_fits, appended}
use Rattle.layout.specs.declared.Document.{Document}
use Rattle.memory.specs.Decode.{kind_of, element_range, range_of, decode}
use Rattle.memory.specs.Step.{Step}
use Rattle.memory.specs.Undamaged.{Undamaged}
use Rattle.memory.specs.Performed.{Performed}
use Rattle.edits.specs.Asked.{RoomIn}
use Rattle.edits.specs.Slot.{SlotReady, Newborn, Appendable, no_block, new_node}
use Rattle.edits.specs.Pooled.{set_pool, set_names}
use Rattle.edits.proofs.Composed.{step-as, step-memory, step-next}
use Rattle.edits.proofs.Ready.{rules-appendable}
use Rattle.edits.proofs.Accepted.{container-there, element-there, performed}

-- ---- the node

module _ (d : NodeData) where
  bare : ((w : Which) → element_range w d ≡ block 0 0) → (w : Which) → range_of w (new_node d) ≡ block 0 0
  bare e children = refl
  bare e attributes = e attributes
  bare e namespaces = e namespaces

no-block : (0 < 4294967296) × (0 < 4294967296)
no-block = (omega arith, omega arith)

pub newborn-element : (n : NameId) → n.0 < 4294967296 → Newborn (new_node (given.Element n no_block no_block))
newborn-element n b =
    record {
      fits = record { fits-data = (b, no-block, no-block); fits-parent = Prim.tt; fits-children = no-block };
      orphan = refl;
      bare = bare (given.Element n no_block no_block) (λ w. None w);
    }
  where
    None : (w : Which) → element_range w (given.Element n no_block no_block) ≡ block 0 0
    None children = refl
    None attributes = refl
    None namespaces = refl

pub newborn-attribute : (n : NameId) (v : Option TextSlot) → n.0 < 4294967296 → CharsFit v → Newborn (new_node (given.Attr n v))
newborn-attribute n v b f =
    record {
      fits = record { fits-data = (b, f); fits-parent = Prim.tt; fits-children = (refl, refl) };
      orphan = refl;
      bare = bare (given.Attr n v) (λ w. refl);
    }

pub newborn-text : (v : Option TextSlot) → CharsFit v → Newborn (new_node (given.Text v))
newborn-text v f =
    record {
      fits = record { fits-data = f; fits-parent = Prim.tt; fits-children = no-block };
      orphan = refl;
      bare = bare (given.Text v) (λ w. refl);
    }

pub newborn-comment : (v : Option TextSlot) → CharsFit v → Newborn (new_node (given.Comment v))
newborn-comment v f =
    record {
      fits = record { fits-data = f; fits-parent = Prim.tt; fits-children = no-block };
      orphan = refl;
      bare = bare (given.Comment v) (λ w. refl);
    }

pub newborn-namespace : (p u : Option TextSlot) → CharsFit p → CharsFit u → Newborn (new_node (given.Namespace p u))
newborn-namespace p u f g =
    record {
      fits = record { fits-data = (f, g); fits-parent = Prim.tt; fits-children = (refl, refl) };
      orphan = refl;
      bare = bare (given.Namespace p u) (λ w. refl);
    }

pub newborn-instruction : (t c : Option TextSlot) → CharsFit t → CharsFit c → Newborn (new_node (given.ProcessingInstruction t c))
newborn-instruction t c f g =
    record {
      fits = record { fits-data = (f, g); fits-parent = Prim.tt; fits-children = no-block };
      orphan = refl;
      bare = bare (given.ProcessingInstruction t c) (λ w. refl);
    }

-- ---- a document with other texts and names bears the same nodes

module _ (D : Doc) (p : Pool) (n : List (Option Name)) where
  born-stores : (k : Kind ℕ (Option ℕ)) → born (set_pool (set_names D n) p) k p n ≡ born D k p n
  unfolding born set_pool set_names
  born-stores k = go D.free
    where
      go : (f : List ℕ) → born_from f (set_pool (set_names D n) p) k p n ≡ born_from f D k p n
      go [] = refl
      go (i ∷ l) = refl

  pub next-stores : next_handle (set_pool (set_names D n) p) ≡ next_handle D
  unfolding set_pool set_names
  next-stores = go D.free
    where
      go : (f : List ℕ) → next_from f (set_pool (set_names D n) p) ≡ next_from f D
      go [] = refl
      go (i ∷ l) = refl

  slot-stores : slot_fits (set_pool (set_names D n) p) ≡ slot_fits D
  unfolding set_pool set_names
  slot-stores = go D.free
    where
      go : (f : List ℕ) → slot_fits_from f (set_pool (set_names D n) p) ≡ slot_fits_from f D
      go [] = refl
      go (i ∷ l) = refl

  appended-stores : (w : Which) (pw : ℕ) (k : Kind ℕ (Option ℕ)) → appended (set_pool (set_names D n) p) w pw k p n ≡ appended D w pw k p n
  appended-stores w pw k = ap₂ (λ (e : Doc) (h : ℕ). attach e w pw (length (list_at e w pw)) h) (born-stores k) next-stores

  ready-stores : SlotReady D → SlotReady (set_pool (set_names D n) p)
  unfolding set_pool set_names
  ready-stores r = record { counts = r.counts; generations = r.generations; inside = r.inside; odd = r.odd; slot = slot-stores ∙ r.slot }

  room-stores : (w : Which) (s : ℕ) → RoomIn D w s → RoomIn (set_pool (set_names D n) p) w s
  unfolding set_pool set_names
  room-stores w s r = record { counts = r.counts; live = r.live; owner = r.owner; inside = r.inside; room = r.room }

  pool-stores : (set_pool (set_names D n) p).pool ≡ p
  unfolding set_pool
  pool-stores = refl

  names-stores : (set_pool (set_names D n) p).names ≡ n
  unfolding set_pool set_names
  names-stores = refl

-- texts alone, and names alone
pub pool-alone : (D : Doc) (p : Pool) → set_pool D p ≡ set_pool (set_names D D.names) p
unfolding set_pool set_names
pool-alone D p = refl

pub names-alone : (D : Doc) (n : List (Option Name)) → set_names D n ≡ set_pool (set_names D n) D.pool
unfolding set_pool set_names
names-alone D n = refl

-- ---- append, behind what was stored

module _ (d : Document) (mem : List ℕ) (w : Which) (pw : ℕ) (p : Pool) (n : List (Option Name)) (e : Document) (mem₁ : List ℕ)
    (s : Step d mem e mem₁ (set_pool (set_names (decode d mem) n) p)) where
  abbrev D : Doc
  D = decode d mem

  pub stored-appendable : Appendable d mem w pw → Appendable e mem₁ w pw
  stored-appendable a =
      record {
        bear = record {
          memory = step-memory d mem e mem₁ (set_pool (set_names D n) p) s a.bear.memory;
          ready = subst SlotReady (sym s.document) (ready-stores D p n a.bear.ready);
        };
        room = subst (λ (x : Doc). RoomIn x w (handle_index pw)) (sym s.document) (room-stores D p n w (handle_index pw) a.room);
      }

  pub stored_next : (h : ℕ) → h ≡ next_handle (decode e mem₁) → h ≡ next_handle (decode d mem)
  stored_next h q = q ∙ ap next_handle s.document ∙ next-stores D p n

  pub stored-append : (k : Kind ℕ (Option ℕ)) (m : Node) → kind_of m.«data» ≡ k → (r : Document) (mem₂ : List ℕ)
      → Step e mem₁ r mem₂ (appended (decode e mem₁) w pw (kind_of m.«data») (decode e mem₁).pool (decode e mem₁).names)
      → Step d mem r mem₂ (appended (decode d mem) w pw k p n)
  stored-append k m q r mem₂ t =
      step-as d mem r mem₂ (appended (set_pool (set_names D n) p) w pw (kind_of m.«data») (set_pool (set_names D n) p).pool (set_pool (set_names D n) p).names) (appended D w pw k p n)
      (step-next d mem e mem₁ (set_pool (set_names D n) p) s (λ (x : Doc). appended x w pw (kind_of m.«data») x.pool x.names) r mem₂ t)
      (ap₂ (λ (x : Pool) (y : List (Option Name)). appended (set_pool (set_names D n) p) w pw (kind_of m.«data») x y) (pool-stores D p n) (names-stores D p n)
      ∙ appended-stores D p n w pw (kind_of m.«data»)
      ∙ ap (λ (x : Kind ℕ (Option ℕ)). appended D w pw x p n) q)

-- ---- what a list asks, from the checks

module _ (d : Document) (mem : List ℕ) (u : Undamaged d mem) (p : ℕ) where
  pub child-appendable : container (view_at (decode d mem) p) ≡ 0 → node_fits (decode d mem) children p ≡ true → Appendable d mem children p
  child-appendable e f =
      let x = container-there (decode d mem) p e in
      rules-appendable d mem u.memory u.rules children p x.0 x.1
      (and_left (slot_fits (decode d mem)) (room_fits (decode d mem) children p) f) (and_right (slot_fits (decode d mem)) (room_fits (decode d mem) children p) f)

  pub element-appendable : (w : Which) → owns w (kind_at (decode d mem) p) ≡ is_element (kind_at (decode d mem) p) → an_element (view_at (decode d mem) p) ≡ 0
      → node_fits (decode d mem) w p ≡ true → Appendable d mem w p
  element-appendable w o e f =
      let x = element-there (decode d mem) p e in
      rules-appendable d mem u.memory u.rules w p x.0 (o ∙ x.1)
      (and_left (slot_fits (decode d mem)) (room_fits (decode d mem) w p) f) (and_right (slot_fits (decode d mem)) (room_fits (decode d mem) w p) f)

-- ---- the call, once the node is in its list

module _ (d : Document) (mem : List ℕ) (w : Which) (pw : ℕ) (p : Pool) (n : List (Option Name)) (e : Document) (mem₁ : List ℕ)
    (s : Step d mem e mem₁ (set_pool (set_names (decode d mem) n) p)) (k : Kind ℕ (Option ℕ)) (m : Node) (km : kind_of m.«data» ≡ k) (r : Document) (mem₂ : List ℕ)
    (t : Step e mem₁ r mem₂ (appended (decode e mem₁) w pw (kind_of m.«data») (decode e mem₁).pool (decode e mem₁).names)) (c : Call) where
  pub made-performed : step c (decode d mem) ≡ answers (appended (decode d mem) w pw k p n) (made (next_handle (decode d mem)))
      → (h : ℕ) → h ≡ next_handle (decode e mem₁) → Performed c d mem (made h) r mem₂
  made-performed q h eh =
      performed c d mem (answers (appended (decode d mem) w pw k p n) (made (next_handle (decode d mem)))) q (made h)
      (ap made (stored_next d mem w pw p n e mem₁ s h eh)) r mem₂ (stored-append d mem w pw p n e mem₁ s k m km r mem₂ t)

  pub done-performed : step c (decode d mem) ≡ answers (appended (decode d mem) w pw k p n) done → Performed c d mem done r mem₂
  done-performed q =
      performed c d mem (answers (appended (decode d mem) w pw k p n) done) q done refl r mem₂ (stored-append d mem w pw p n e mem₁ s k m km r mem₂ t)

-- How a document stands for a plain tree. hs gives each birth's handle. The reader of the claim need not see this.
-- Assumes nothing.
use Rattle.std.specs.Prelude.{None}
use mathlib.Core.Path.{◌≡◌}
use mathlib.Core.Logic.{◌≢◌, ◌⊎◌}
use mathlib.Core.Bool.{Bool, true, false}
use mathlib.Core.List.{List, [], map, Memᴰ}
use Prim.Native.Nat.{ℕ, ◌*◌, ◌≤◌, ◌<◌}
use lib.ListN.{length, get_or}
use Rattle.words.specs.Lists.{joined}
use Rattle.blocks.specs.Rule.{BlocksApart}
use Rattle.records.specs.Handles.{handle_index, handle_generation}
use Rattle.texts.specs.Pool.{bytes_of}
use Rattle.names.specs.Table.{entry_bytes}
use Rattle.model.specs.Kinds.{Which, texts_of, names_of}
use Rattle.model.specs.Doc.{Doc, limits_ok, root_handle, no_key, generation_at, live_slot, kind_at, node_at, parent_at, list_at, even, is_some, map_option}
use Rattle.model.specs.Calls.{key_of}
use Rattle.model.specs.Rules.{Shape, block_in, slots_held}
use Rattle.model.specs.Tree.{Tree, key_in}
use Rattle.laws.specs.Claim.{gone_below}
use Rattle.laws.proofs.Wf.{Distinct}

-- rule 2 by membership
pub record FreeSlots (d : Doc) : Type 0 where
  pub odd : (i : ℕ) → Memᴰ i d.free → (i < length d.gens) × (even (generation_at d i) ≡ false)
  pub all : (i : ℕ) → i < length d.gens → even (generation_at d i) ≡ false → Memᴰ i d.free
  pub once : Distinct d.free

-- rule 1's counts
pub record Within (d : Doc) : Type 0 where
  pub slots : length d.gens ≤ d.limits.nodes
  pub texts : length d.pool.texts ≤ d.limits.texts
  pub text_bytes : length (bytes_of d.pool.texts) ≤ d.limits.text_bytes
  pub names : length d.names ≤ d.limits.names
  pub name_bytes : length (joined entry_bytes d.names) ≤ d.limits.name_bytes

-- the text slots that a handle's node holds
abbrev pub fields : Doc → ℕ → List ℕ
fields d h = slots_held (texts_of (kind_at d h))

-- rule 8 by membership
pub record Pooled (d : Doc) (t : Tree) (hs : ℕ → ℕ) : Type 0 where
  pub inside : (b s : ℕ) → t.live b ≡ true → Memᴰ s (fields d (hs b)) → s < length d.pool.texts
  pub distinct : (b : ℕ) → t.live b ≡ true → Distinct (fields d (hs b))
  pub single : (a b s : ℕ) → t.live a ≡ true → t.live b ≡ true → Memᴰ s (fields d (hs a)) → Memᴰ s (fields d (hs b)) → a ≡ b
  pub free_inside : (s : ℕ) → Memᴰ s d.pool.free → (s < length d.pool.texts) × (get_or d.pool.texts s [] ≡ [])
  pub free_once : Distinct d.pool.free
  pub free_apart : (b s : ℕ) → t.live b ≡ true → Memᴰ s (fields d (hs b)) → Memᴰ s d.pool.free → ⊥
  pub covered : (s : ℕ) → s < length d.pool.texts → Memᴰ s d.pool.free ⊎ ((b : ℕ) × (t.live b ≡ true) × Memᴰ s (fields d (hs b)))

-- Handles are never made twice while fewer than 2^31 births are gone.
pub record Unrepeated (gens : List ℕ) (n : ℕ) (live : ℕ → Bool) (hs : ℕ → ℕ) : Type 0 where
  pub in_slots : (b : ℕ) → b < n → handle_index (hs b) < length gens
  pub older : (b : ℕ) → b < n → live b ≡ false → handle_generation (hs b) < get_or gens (handle_index (hs b)) 1
  pub bound : (i : ℕ) → i < length gens → get_or gens i 1 ≤ 2 * gone_below live n
  pub apart : (a b : ℕ) → a < b → b < n → hs a ≢ hs b

abbrev pub Fresh : List ℕ → ℕ → (ℕ → Bool) → (ℕ → ℕ) → Type 0
Fresh gens n live hs = gone_below live n < 2147483648 → Unrepeated gens n live hs

pub record Sim (d : Doc) (t : Tree) (hs : ℕ → ℕ) : Type 0 where
  -- rules 1, 2, 5 and 8 of the document
  pub shape : Shape d
  pub limits : limits_ok d.limits ≡ true
  pub counts : d.counts_fit ≡ true
  pub lengths : d.lengths_fit ≡ true
  pub within : Within d
  pub generations : (i : ℕ) → i < length d.gens → get_or d.gens i 0 < 4294967296
  pub nodes : (i : ℕ) → even (generation_at d i) ≡ true → is_some (get_or d.kinds i None) ≡ true
  pub order_fits : (i : ℕ) → get_or d.order i 0 < 4294967296
  pub caps_fit : (w : Which) (i : ℕ) → get_or (d.arenas w).caps i 0 < 4294967296
  pub free : FreeSlots d
  pub blocks : (w : Which) → BlocksApart (d.arenas w) (block_in d w)
  pub pool : Pooled d t hs
  pub named : (b n : ℕ) → t.live b ≡ true → Memᴰ n (names_of (kind_at d (hs b))) → n < length d.names
  -- the live births and the live slots
  pub counted : (b : ℕ) → t.live b ≡ true → b < t.births
  pub lives : (b : ℕ) → t.live b ≡ true → live_slot d (handle_index (hs b)) ≡ true
  pub gen : (b : ℕ) → t.live b ≡ true → generation_at d (handle_index (hs b)) ≡ handle_generation (hs b)
  pub inj : (a b : ℕ) → t.live a ≡ true → t.live b ≡ true → handle_index (hs a) ≡ handle_index (hs b) → a ≡ b
  pub owner : (i : ℕ) → live_slot d i ≡ true → (b : ℕ) × (t.live b ≡ true) × (handle_index (hs b) ≡ i)
  -- what they show
  pub kind : (b : ℕ) → t.live b ≡ true → node_at d (hs b) ≡ t.kind b
  pub parent : (b : ℕ) → t.live b ≡ true → parent_at d (hs b) ≡ map_option hs (t.parent b)
  pub lists : (w : Which) (b : ℕ) → t.live b ≡ true → list_at d w (hs b) ≡ map hs (t.lists w b)
  -- the order
  pub current : d.current ≡ t.current
  pub order : d.current ≡ true → (b : ℕ) → t.live b ≡ true → key_of (get_or d.order (handle_index (hs b)) no_key) ≡ key_in t b
  pub order_free : d.current ≡ true → (i : ℕ) → i < length d.gens → live_slot d i ≡ false → get_or d.order i 0 ≡ no_key
  -- handles
  pub fresh : Fresh d.gens t.births t.live hs
  pub root_live : t.live 0 ≡ true
  pub root_is : hs 0 ≡ root_handle

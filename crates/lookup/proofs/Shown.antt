-- Stored texts and names are what the words of the pool and of the table show.
-- Assumes nothing.
use Rattle.std.specs.Prelude.{Option}
use mathlib.Core.Path.{◌≡◌, sym, ap, ◌∙◌}
use mathlib.Core.Bool.{true}
use mathlib.Core.List.{List, []}
use Prim.Native.Nat.{ℕ, ◌≤◌, ◌<◌, min}
use native.Mathlib.Omega.{arith}
use native.Mathlib.Decide.{dec_lt}
use Rattle.names.specs.Table.{Name, name}
use Rattle.names.specs.Words.{name_shown, name_there, part_number, part_of}
use Rattle.names.specs.declared.NamePart.{NamePart}
use Rattle.names.specs.declared.NamePart.TheVariants.{Namespace, Local}
use Rattle.names.proofs.Words.{there-number, held-there, part-number}
use Rattle.model.specs.Doc.{bytes_at, pair_at, or_else}
use Rattle.layout.specs.declared.Document.{Document}
use Rattle.memory.specs.Decode.{name_limits, name_counts, names_part, decode}
use Rattle.memory.specs.Stored.{text_in, name_part}
use Rattle.memory.specs.Undamaged.{Undamaged}
use Rattle.memory.proofs.Shown.{name-shown}
use Rattle.memory.proofs.PoolAndTable.{texts-shown}
use Rattle.lookup.proofs.Named.{held}

module _ (d : Document) (mem : List ℕ) where
  -- a text field
  pub text-told : (t : Option ℕ) (r : List ℕ) → r ≡ text_in d mem t → r ≡ bytes_at (decode d mem) t
  text-told t r q = q ∙ sym (texts-shown d mem t)

  module _ (u : Undamaged d mem) where
    -- the pair of a number: no pair from the count on, where both parts read as empty
    abbrev words : List ℕ
    words = names_part d mem

    pair-shown : (n : ℕ) → pair_at (decode d mem) n ≡ name (name_part d mem n 0) (name_part d mem n 1)
    unfolding name_shown
    pair-shown n = ap (or_else (name [] [])) (name-shown d mem n) ∙ go (dec_lt n (min d.counts.names d.limits.names))
      where
        go : Dec (n < min d.counts.names d.limits.names) → or_else (name [] []) (name_shown (name_limits d) (name_counts d) n words) ≡ name (name_part d mem n 0) (name_part d mem n 1)
        go (yes b) =
            let t : name_there (name_limits d) (name_counts d) n words ≡ true = held-there (name_limits d) (name_counts d) words (held d mem u) n (omega arith) in
            rw t
        go (no b) =
            let c : min d.counts.names d.limits.names ≤ n = omega arith in
            rw (there-number (name_limits d) (name_counts d) words n c, part-number (name_limits d) (name_counts d) words n 0 c, part-number (name_limits d) (name_counts d) words n 1 c)

    module _ (n : ℕ) (r : List ℕ) where
      pub name-told : (p : NamePart) → r ≡ name_part d mem n (part_number p) → r ≡ part_of p (pair_at (decode d mem) n)
      name-told Namespace q = q ∙ sym (ap (λ (x : Name). x.namespace) (pair-shown n))
      name-told Local q = q ∙ sym (ap (λ (x : Name). x.local) (pair-shown n))

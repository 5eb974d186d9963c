-- A record and its words.
-- Assumes nothing.
use Rattle.std.specs.Prelude.{Some, None, Option}
use mathlib.Core.Path.{◌≡◌, refl, sym, ap, ◌∙◌}
use mathlib.Core.Bool.{Bool, true, false, not, cond}
use mathlib.Core.List.{List}
use Prim.Native.Nat.{ℕ, ◌≤◌}
use native.Mathlib.Omega.{arith}
use lib.ListN.{length}
use lib.Seq.{sets, sets-eq}
use lib.Dec.{eqb, leb}
use borrow.Author.Tests.{leb-true}
use Rattle.words.proofs.Tests.{and_left, and_right}
use Rattle.words.specs.Parts.{put}
use Rattle.layout.specs.declared.Document.{Document}
use Rattle.layout.specs.Record.{record_with}
use Rattle.encoding.specs.Records.{limits_in, counts_in, document_of, truth_word, words_of, is_lent, lent_record}

-- stores at the front, one behind the other
pub stored : (l vs : List ℕ) → length vs ≤ length l → sets l 0 vs ≡ put 0 vs l
unfolding put
stored l vs h = sets-eq vs l 0 (omega arith)

pub truth-back : (t : Bool) → not (eqb (truth_word t) 0) ≡ t
truth-back true = refl
truth-back false = refl

-- the record that was written is the one that is read
pub written_back : (d : Document) (l : List ℕ) → document_of (put 0 (words_of d) l) ≡ d
unfolding put document_of limits_in counts_in words_of
written_back d l = ap (λ (t : Bool). record_with d d.counts t) (truth-back d.current)

pub length-words_of : (d : Document) → length (words_of d) ≡ 19
unfolding words_of
length-words_of d = refl

-- all is lent, and d is the record
pub record Whole (w : List ℕ) (room asked : ℕ) (d : Document) : Type 0 where
  pub is : d ≡ document_of w
  pub lent : is_lent w room asked ≡ true
  pub words : 19 ≤ length w
  pub enough : asked ≤ room

pub not-lent : (w : List ℕ) (room asked : ℕ) (l : Option Document) → l ≡ lent_record w room asked → l ≡ None → is_lent w room asked ≡ false
unfolding lent_record
not-lent w room asked l e s = go (is_lent w room asked) (sym s ∙ e)
  where
    go : (t : Bool) → None ≡ cond t (Some (document_of w)) None → t ≡ false
    go true q = let zero_one : ◌≡◌ {A = ℕ} 0 1 = cc in absurd (omega arith)
    go false q = refl

lent-words : (w : List ℕ) (room asked : ℕ) → is_lent w room asked ≡ true → 19 ≤ length w
unfolding is_lent
lent-words w room asked e = leb-true 19 (length w) (and_left (leb 19 (length w)) (leb asked room) e)

lent-room : (w : List ℕ) (room asked : ℕ) → is_lent w room asked ≡ true → asked ≤ room
unfolding is_lent
lent-room w room asked e = leb-true asked room (and_right (leb 19 (length w)) (leb asked room) e)

pub whole : (w : List ℕ) (room asked : ℕ) (l : Option Document) (d : Document) → l ≡ lent_record w room asked → l ≡ Some d → Whole w room asked d
unfolding lent_record
whole w room asked l d e s = go (is_lent w room asked) refl (sym s ∙ e)
  where
    go : (t : Bool) → is_lent w room asked ≡ t → Some d ≡ cond t (Some (document_of w)) None → Whole w room asked d
    go true q p = record { is = cc; lent = q; words = lent-words w room asked q; enough = lent-room w room asked q }
    go false q p = let zero_one : ◌≡◌ {A = ℕ} 0 1 = cc in absurd (omega arith)

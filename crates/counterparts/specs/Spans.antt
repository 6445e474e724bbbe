-- The entries of one directory of an accepted image in the index of names, in their order.
use Rattle.std.specs.Prelude.{ℕ, zero, suc, ◌+◌, ◌/◌, ◌%◌, ◌≤◌, ◌<◌, ◌≡◌, ◌⊎◌, List, [], ◌∷◌, ◌++◌, map, length}
use Rattle.disk.specs.Blocks.{block_of}
use Rattle.rules.specs.Anodes.{anodes_of}
use Rattle.rules.specs.Walk.{Entered}
use Rattle.rules.specs.Lookup.{entries_of}
use Rattle.names.specs.Index.{Indexed, start_of, InBlock}
use Rattle.anodes.specs.Loaded.{Loaded}
use Rattle.change_laws.specs.Image.{ReachedDir}
use Rattle.change_laws.specs.FoundEntries.{Standing}
use Rattle.counterparts.specs.declared.Span.{Span}

-- the tables hold the anodes of the accepted image
abbrev pub LoadedFor : List ℕ → List ℕ → List ℕ → Type 0
LoadedFor img firsts nexts = (counts : List ℕ) × Loaded img counts firsts nexts

-- h heads a reached directory, or is 0, which heads none
abbrev pub HeadsDirectory : List ℕ → ℕ → Type 0
HeadsDirectory img h = (h ≡ 0) ⊎ ReachedDir img h

-- the starts of entries
unfoldable pub starts_of : List Entered → List ℕ
starts_of l = map (λ e. e.start) l

-- the starts of the k entries of the index from `from` on
unfoldable pub starts_in : List ℕ → ℕ → ℕ → List ℕ
starts_in index from zero = []
starts_in index from (suc k) = starts_in index from k ++ (start_of index (from + k) ∷ [])

-- the entries l were put into the index as those from i up to n, and those before them stay
pub record Added (img old new : List ℕ) (i n : ℕ) (l : List Entered) : Type 0 where
  pub indexed : Indexed img new n
  pub grown : n ≡ i + length l
  pub starts : starts_in new i (length l) ≡ starts_of l
  pub kept : (k : ℕ) → k < i → start_of new k ≡ start_of old k
  pub within : (k : ℕ) → k < n → (k < i → InBlock old k) → InBlock new k

-- the entries of the index in a span are those of l
pub record SpanOf (img index : List ℕ) (span : Span) (l : List Entered) : Type 0 where
  pub indexed : Indexed img index span.upto
  pub ordered : span.from ≤ span.upto
  pub whole : span.upto ≡ span.from + length l
  pub starts : starts_in index span.from (length l) ≡ starts_of l
  pub within : (k : ℕ) → span.from ≤ k → k < span.upto → InBlock index k

-- they are those of some directory, or none
abbrev pub SpanFor : List ℕ → List ℕ → Span → Type 0
SpanFor img index span = (h : ℕ) × HeadsDirectory img h × SpanOf img index span (entries_of img (anodes_of img) h)

-- e stands at its start
abbrev pub StandsAt : List ℕ → Entered → Type 0
StandsAt img e = Standing (block_of img (e.start / 512)) (e.start / 512) (e.start % 512) 510 e

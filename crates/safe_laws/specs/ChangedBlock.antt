-- An image in which of the reached directories one block alone is changed, that of an entry, in its old place or a new one.
use Rattle.std.specs.Prelude.{ℕ, ◌≡◌, ◌≢◌, false, List}
use Rattle.disk.specs.Blocks.{block_of}
use Rattle.rules.specs.Anodes.{Anodes, limit, anodes_of}
use Rattle.rules.specs.Chains.{chain_of}
use Rattle.rules.specs.Walk.{Entered}
use Rattle.rules.specs.Lookup.{contents}
use Rattle.laws.specs.Members.{Member}
use Rattle.change_laws.specs.Image.{ReachedDir}
use Rattle.change_laws.specs.Reached.{EntryIn, entry-facts}
use Rattle.safe_laws.specs.RelocatedEntries.{MovedChain}

-- j has the anodes t: every reached directory but that of e has its chain there, with the block of e as block z, which has the bytes `now`; every other block of it is as it was, and so are all other files
pub record BlockChanged (img j : List ℕ) (t : Anodes) {h : ℕ} {e : Entered} (m : EntryIn img h e) (z : ℕ) (now : List ℕ) : Type 0 where
  pub anodes : anodes_of j ≡ t
  pub chains : (k : ℕ) → ReachedDir img k → k ≢ e.anode → MovedChain (anodes_of img) t (entry-facts m).a₀ z k
  pub blocks-kept : (k : ℕ) → ReachedDir img k → k ≢ e.anode → (a : ℕ) → Member a (chain_of (anodes_of img).next limit k) → a ≢ (entry-facts m).a₀ → block_of j ((anodes_of img).block a) ≡ block_of img ((anodes_of img).block a)
  pub block_now : block_of j z ≡ now
  pub files : (k : ℕ) (x : Entered) → EntryIn img k x → x.dir ≡ false → x.anode ≢ e.anode → contents j t x ≡ contents img (anodes_of img) x

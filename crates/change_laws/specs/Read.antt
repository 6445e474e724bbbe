-- What a read of a whole file gives: the bytes of the file's blocks in chain order, cut at its size.
use Rattle.std.specs.Prelude.{ℕ, ◌+◌, ◌*◌, ◌≡◌, Bool, false, List}
use Rattle.std.proofs.Common.{ap, arith, take-take, le-ltb}
use Rattle.std.proofs.Math.Option.{some}
use Rattle.std.proofs.Math.ListN.{length}
use Rattle.std.proofs.Math.Seq.{length-take-le}
use Rattle.rules.specs.Counting.{◌if◌else◌, first_of}
use Rattle.rules.specs.Anodes.{anodes_of}
use Rattle.rules.specs.Chains.{blocks_of}
use Rattle.rules.specs.Walk.{Entered, blocks_for}
use Rattle.rules.specs.Accepted.{check_answer}
use Rattle.rules.specs.Lookup.{no_directory, entry_named, bytes_of, contents}
use Rattle.rules.specs.Calls.{span_refusal, read_answer, read_outcome, settled, done_or}
use Rattle.laws.specs.ChainBlocks.{length-blocks_of}
use Rattle.frames.specs.StoredBytes.{length-gather}
use Rattle.change_laws.specs.Reached.{named-member, EntryIn, entry-facts, entry_data}

-- the bytes of a file
module _ {img : List ℕ} {h : ℕ} {e : Entered} (m : EntryIn img h e) (file : e.dir ≡ false) where
  -- its blocks have as many as its size asks for
  pub bytes_long : length (bytes_of img (anodes_of img) e.anode) ≡ blocks_for e.size * 512
  unfolding bytes_of
  bytes_long =
      omega (arith, length-gather img (blocks_of (anodes_of img) e.anode) (λ y p. (entry_data m y p).inside), length-blocks_of (anodes_of img) e.anode, (entry-facts m).sized file)

  -- a file has as many bytes as its size says
  pub file_long : length (contents img (anodes_of img) e) ≡ e.size
  unfolding contents blocks_for
  file_long = length-take-le e.size (bytes_of img (anodes_of img) e.anode) (omega (arith, bytes_long))

module _ (img b a : List ℕ) (accepted : check_answer img (length b) (length a) ≡ 0) (h : ℕ) (reached : no_directory img (anodes_of img) h ≡ false)
    (name : List ℕ) (e : Entered) (found : entry_named img (anodes_of img) h name ≡ some e) (file : e.dir ≡ false) where
  -- a named file has as many bytes as its size says
  pub contents_long : length (contents img (anodes_of img) e) ≡ e.size
  contents_long = file_long (record {
    directory = record { image = record { blocks = length b; anodes = length a; accepted = accepted }; reached = reached };
    member = named-member img (anodes_of img) h name e found;
  }) file

  done : (out : List ℕ) → length out ≡ e.size → read_answer img b a h name 0 (length out) ≡ 0
  unfolding read_answer span_refusal first_of
  done out long =
      rw (accepted, reached, found) (rw (le-ltb e.size (0 + length out) (omega arith)) (ap (λ (d : Bool). 24 if d else 0) file))

  -- and a read of the whole size is done and gives them
  pub whole_read : (out : List ℕ) → length out ≡ e.size →
      ((read_outcome img b a h name 0 out).answer ≡ 0) × ((read_outcome img b a h name 0 out).output ≡ contents img (anodes_of img) e)
  unfolding read_outcome settled done_or contents
  whole_read out long = (
    done out long,
    rw (done out long, found, long) (take-take e.size e.size (bytes_of img (anodes_of img) e.anode) (omega arith)),
  )

-- A new anode block: 512 bytes, its mark and its slot as sequence number, and 82 free anodes.
use Rattle.std.specs.Prelude.{ℕ, ◌+◌, ◌*◌, ◌≡◌, length, replicate}
use Rattle.std.proofs.Common.{◌∙◌, arith}
use Rattle.std.proofs.lemmas.List.{length-replicate}
use Rattle.endian.specs.Bytes.{be16}
use Rattle.endian.proofs.Laws.{get_or_zeros}
use Rattle.disk.specs.AnodeBlocks.{anode_mark, anode_made, anode_in, anode_header_in}
use Rattle.disk.specs.declared.AnodeHeader.{AnodeHeader}
use Rattle.disk.proofs.Store.{length-put_anode_header, anode_in-put_anode_header, anode_header_in-put_anode_header}
use Rattle.rules.specs.Format.{zero_block, empty_anode_block}

-- zeros read 0
pub be16_zeros : (n k : ℕ) → be16 (replicate n 0) k ≡ 0
unfolding be16
be16_zeros n k = rw (get_or_zeros n k, get_or_zeros n (k + 1))

pub length-zero_block : length zero_block ≡ 512
length-zero_block = length-replicate {A = ℕ} 512 0

anode_in-zero_block : (p : ℕ) → anode_in zero_block p ≡ anode_made 0 0 0
unfolding anode_in
anode_in-zero_block p = rw (be16_zeros 512 (16 + 6 * p), be16_zeros 512 (16 + 6 * p + 2), be16_zeros 512 (16 + 6 * p + 4))

-- the head of the anode block of slot s
abbrev pub header_made : ℕ → AnodeHeader
header_made s = record { mark = anode_mark; sequence = s }

module _ (s : ℕ) where
  pub length-empty_anode_block : length (empty_anode_block s) ≡ 512
  unfolding empty_anode_block
  length-empty_anode_block = length-put_anode_header zero_block (header_made s) ∙ length-zero_block

  pub anode_header_in-empty_anode_block : anode_header_in (empty_anode_block s) ≡ header_made s
  unfolding empty_anode_block
  anode_header_in-empty_anode_block = anode_header_in-put_anode_header zero_block (header_made s) (omega (arith, length-zero_block))

  pub anode_in-empty_anode_block : (p : ℕ) → anode_in (empty_anode_block s) p ≡ anode_made 0 0 0
  unfolding empty_anode_block
  anode_in-empty_anode_block p = anode_in-put_anode_header zero_block (header_made s) p ∙ anode_in-zero_block p

-- The writes that stand in the buffer after a done call, replayed on the old image, lead through the writes of the list to the image that the call left.
use Rattle.std.specs.Prelude.{ℕ, zero, suc, ◌*◌, ◌≤◌, ◌≡◌, refl, List, [], ◌∷◌, ◌++◌, length, take, drop}
use Rattle.std.proofs.Common.{sym, ap, ◌∙◌, append_assoc, arith}
use Rattle.std.proofs.Math.Seq.{take-append_seam, drop-append_seam}
use Rattle.endian.specs.Bytes.{be16, put16}
use Rattle.disk.specs.Blocks.{with_block}
use Rattle.rules.specs.Counting.{gather}
use Rattle.laws.specs.Each.{Each}
use Rattle.safe_rules.specs.SafeWrites.{BlockWrite, applied, write_bytes, list_bytes, buffer_after, replayed}

-- a write of a whole block
abbrev pub WholeWrite : BlockWrite → Type 0
WholeWrite w = length w.bytes ≡ 512

-- a front of known length, and what lies behind it
take-front : (n : ℕ) (front rest : List ℕ) → length front ≡ n → take n (front ++ rest) ≡ front
take-front n front rest e = rw (sym e) (take-append_seam front rest)

drop-front : (n : ℕ) (front rest : List ℕ) → length front ≡ n → drop n (front ++ rest) ≡ rest
drop-front n front rest e = rw (sym e) (drop-append_seam front rest)

-- a record's number, bytes and rest
pub number_read : (w : BlockWrite) (rest : List ℕ) → be16 (write_bytes w ++ rest) 0 ≡ w.block
unfolding be16 write_bytes put16
number_read w rest = omega arith

bytes_read : (w : BlockWrite) (rest : List ℕ) → WholeWrite w → take 512 (drop 2 (write_bytes w ++ rest)) ≡ w.bytes
unfolding write_bytes put16
bytes_read w rest whole = take-front 512 w.bytes rest whole

pub rest_read : (w : BlockWrite) (rest : List ℕ) → WholeWrite w → drop 514 (write_bytes w ++ rest) ≡ rest
unfolding write_bytes put16
rest_read w rest whole = drop-front 512 w.bytes rest whole

-- k writes replayed from the list's bytes, whatever lies behind them, are the first k writes done
replay_list : (k : ℕ) (img : List ℕ) (ws : List BlockWrite) (rest : List ℕ) → Each WholeWrite ws → k ≤ length ws → replayed k img (list_bytes ws ++ rest) ≡ applied img (take k ws)
unfolding replayed applied list_bytes gather
replay_list zero img ws rest whole k = refl
replay_list (suc k) img [] rest whole l = absurd (omega (arith, l))
replay_list (suc k) img (w ∷ ws) rest whole l =
    let q = append_assoc (write_bytes w) (list_bytes ws) rest in
    rw q (rw (number_read w (list_bytes ws ++ rest), bytes_read w (list_bytes ws ++ rest) whole.0, rest_read w (list_bytes ws ++ rest) whole.0)
    (replay_list k (with_block img w.block w.bytes) ws rest whole.1 (omega (arith, l))))

-- of the buffer that a done call leaves
pub replay_buffer : (k : ℕ) (img : List ℕ) (ws : List BlockWrite) (buffer : List ℕ) → Each WholeWrite ws → k ≤ length ws → replayed k img (buffer_after ws buffer) ≡ applied img (take k ws)
unfolding buffer_after
replay_buffer k img ws buffer whole l = replay_list k img ws (drop (length ws * 514) buffer) whole l

take_all : (ws : List BlockWrite) → take (length ws) ws ≡ ws
take_all [] = refl
take_all (w ∷ ws) = ap (λ (l : List BlockWrite). w ∷ l) (take_all ws)

-- all done: the image left
pub replay_all : (img : List ℕ) (ws : List BlockWrite) (buffer : List ℕ) → Each WholeWrite ws → replayed (length ws) img (buffer_after ws buffer) ≡ applied img ws
replay_all img ws buffer whole = replay_buffer (length ws) img ws buffer whole (omega arith) ∙ ap (applied img) (take_all ws)

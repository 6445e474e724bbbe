use Rattle.counterparts.proofs.Fits.{headed_unbroken, loaded_entries, room_for}
use Rattle.counterparts.proofs.open_directory.Goals as goal

pub index_directory-upto-requires : goal.index_directory-upto-requires
index_directory-upto-requires c = let p = c.requires in
    (c.make_room-from.ensures.0 _ p.2, rw (loaded_entries _ _ _ _ _ p.0) (headed_unbroken _ _ p.1), room_for _ _ _ _ _ _ p.0 p.1 c.chain_length.ensures.0 c.make_room-from.ensures.1)

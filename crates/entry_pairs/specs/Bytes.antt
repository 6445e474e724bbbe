-- The bytes in which two entries of one path differ.
use Rattle.std.specs.Prelude.{ℕ, List}
use Rattle.rules.specs.Walk.{Entered}
use Rattle.paths.specs.Facts.{facts_of}
use Rattle.differences.specs.Fields.{bytes_differing, first_byte_differing, compared_bytes}
use Rattle.byte_differences.specs.declared.Differing.{Differing}
use Rattle.byte_differences.specs.Differing.{differing_made}

-- the first, and how many; none where one of them is a directory
unfoldable pub differing_bytes : List ℕ → List ℕ → Entered → Entered → Differing
differing_bytes img j e f =
    differing_made (first_byte_differing (compared_bytes (facts_of img e) (facts_of j f)) (compared_bytes (facts_of j f) (facts_of img e)))
    (bytes_differing (compared_bytes (facts_of img e) (facts_of j f)) (compared_bytes (facts_of j f) (facts_of img e)))

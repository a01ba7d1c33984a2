-- All that is promised of the pieces of a log holds.
use Rattle.pieces.specs.Cut.{Promised}
use Rattle.pieces.proofs.CutLaws.{in_pieces}
use Rattle.pieces.proofs.WholeLaws.{handed_whole}
use Rattle.pieces.proofs.ChunkLaws.{as_chunks}
use Rattle.pieces.proofs.NearLaws.{near}

pub promised : Promised
promised = record { bytes = in_pieces; frames = handed_whole; chunked = as_chunks; near = near }

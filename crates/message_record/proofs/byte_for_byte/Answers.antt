use Rattle.message_record.proofs.ByteForByte.{byte_for-byte}
use Rattle.message_record.proofs.byte_for_byte.Goals as goal

pub returns : goal.returns
returns c = byte_for-byte

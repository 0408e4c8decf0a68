-- `protocol::clean_orders_exist` meets its contract: the theorem of CleanExists.antt. Assumes nothing.
use Rattle.protocol.proofs.clean.Exists.{not_hollow}
use Rattle.protocol.proofs.clean_orders_exist.Goals as goal

pub returns : goal.returns
returns c = not_hollow

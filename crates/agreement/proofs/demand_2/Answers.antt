-- `demand_2` meets its contract: the messages' half is proved in `message`, the firmware's half here. Assumes nothing.
use Rattle.message.proofs.Agreement.{agreement}
use Rattle.agreement.proofs.VeryDwords.{very_dwords}
use Rattle.agreement.proofs.Images.{images}
use Rattle.agreement.proofs.Directories.{directories, inside}
use Rattle.agreement.proofs.demand_2.Goals as goal

pub returns : goal.returns
returns c = record { messages = agreement; images = images; directories = directories; inside = inside; dwords = very_dwords }

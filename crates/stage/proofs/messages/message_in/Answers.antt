-- `messages::message_in` meets its contract: the header says how many dwords. Assumes nothing.
use Rattle.std.proofs.Common.{take, ap, ◌∙◌}
use Rattle.stage.proofs.messages.message_in.Goals as goal

pub returns : goal.returns
returns c =
    let f = c.front.ensures in
    let n = c.total_length-len.ensures in
    let dwords = c.args.dwords.now in
    record {
      holds = f.holds ∙ ap (λ k. take k dwords) n;
      same_block = f.same_block;
      same_start = f.same_start;
    }

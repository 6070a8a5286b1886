use Rattle.std.proofs.Common.{length, take, sym, ap, ◌∙◌}
use Rattle.wire.proofs.Numbers.{little_endian_8, take_little_endian}
use Rattle.wire.proofs.number.write_number.Goals as goal

pub returns : goal.returns
returns c =
    c.copy_from_slice.ensures.after
    ∙ ap (take (length c.args.part.now)) (c.to_le_bytes.ensures ∙ sym (little_endian_8 c.args.n))
    ∙ take_little_endian (length c.args.part.now) 8 c.args.n c.requires

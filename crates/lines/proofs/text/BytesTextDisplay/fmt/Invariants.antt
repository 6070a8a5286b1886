use Rattle.std.proofs.Common.{take}
use Rattle.std.specs.Fmt.{HasWritten, IsPlainFormatter}
use Rattle.lines.specs.Texts.{rest_text}
use Rattle.lines.specs.Tokens.{byte_tokens}
use Rattle.lines.proofs.text.BytesTextDisplay.fmt.Given as goal

-- what was written so far are the bytes before the index
abbrev pub invariant-loop-byte : goal.invariant-loop-byte
invariant-loop-byte g l =
    IsPlainFormatter l.initial.f → HasWritten g.W.Write.write_str_gives l.initial.f (rest_text (byte_tokens (take l.byte-index l.byte-items))) l.f

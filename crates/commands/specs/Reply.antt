-- What a command is answered.
use Rattle.std.specs.Prelude.{ℕ, Result, Ok, Err, List, ◌++◌, codes, decimal}
use Rattle.std.specs.Fmt.{signed_decimal}
use Rattle.flow_rules.specs.Refusal.{refusal_line}
use Rattle.flow_rules.specs.declared.refusal.Refusal.{Refusal}
use Rattle.commands.specs.declared.reply.Reply.{Reply}
use Rattle.commands.specs.declared.reply.Reply.TheVariants.{Capacity, Ordered, Name, Offered, Retried, Submitted, Done, Idle, Refused}

-- the text of a reply
abbrev pub reply_text : Reply → List ℕ
reply_text (Capacity capacity) = codes "cap " ++ decimal capacity
reply_text Ordered = codes "late"
reply_text (Name name) = codes "sub " ++ name
reply_text (Offered answer) = codes "offer " ++ signed_decimal answer
reply_text (Retried answer calls) =
    codes "retry " ++ signed_decimal answer ++ codes " calls " ++ decimal calls
reply_text (Submitted answer) = codes "submit " ++ signed_decimal answer
reply_text Done = codes "ok"
reply_text Idle = codes "idle"
reply_text (Refused refusal) = refusal_line refusal

-- the reply of a call that may be refused
abbrev pub reply_or_refusal : Result Reply Refusal → Reply
reply_or_refusal (Ok reply) = reply
reply_or_refusal (Err refusal) = Refused refusal

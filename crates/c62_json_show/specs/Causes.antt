-- Why each instruction isn't issued a cycle earlier (docs/JSON.md, "Shown blocks"; docs/SHOW.md, "Why not earlier").
use Rattle.std.specs.Prelude.{List, [], ◌++◌, codes}
use Rattle.std.specs.List.{flat_map}
use Rattle.json.specs.Token.{Token}
use Rattle.c62_reason.specs.Words.{reason_words}
use Rattle.c62_why.specs.declared.held.Held.{Held as Dependence}
use Rattle.c62_why.specs.declared.taken.Taken.{Taken as Lack}
use Rattle.c62_why.specs.declared.why.Why.{Why}
use Rattle.c62_why.specs.declared.why.Cause.{Cause}
use Rattle.c62_why.specs.declared.why.Shortage.{Shortage}
use Rattle.c62_why.specs.declared.why.Cause.TheVariants.{First, Held, Taken, Nothing}
use Rattle.c62_show.specs.Whys.{resource_words}
use Rattle.c62_json.specs.Document.{object}
use Rattle.c62_json_packets.specs.Member.{number_member, signed_member, text_member, null_member, array_member, object_member}

-- the dependence that would be broken: after which line, by how many cycles at least, and why
unfoldable pub held_members : Dependence → List Token
held_members held =
    number_member (codes "after") held.after
    ++ signed_member (codes "needs") held.needs
    ++ text_member (codes "because") (reason_words held.reason)

abbrev pub held_member : Cause → List Token
held_member First = null_member (codes "held")
held_member (Held held) = object_member (codes "held") (held_members held)
held_member (Taken shortage) = null_member (codes "held")
held_member Nothing = null_member (codes "held")

-- what there is too little of, and the line that takes it
unfoldable pub taken_members : Lack → List Token
taken_members taken = text_member (codes "resource") (resource_words taken.resource) ++ number_member (codes "by") taken.by

abbrev pub taken_member : Cause → List Token
taken_member First = null_member (codes "taken")
taken_member (Held held) = null_member (codes "taken")
taken_member (Taken shortage) = object_member (codes "taken") (taken_members shortage.first)
taken_member Nothing = null_member (codes "taken")

unfoldable pub one_taken : Lack → List Token
one_taken taken = object (taken_members taken)

-- all of which there is too little
unfoldable pub all_taken : Shortage → List Token
all_taken shortage = one_taken shortage.first ++ flat_map one_taken shortage.more.items

abbrev pub all_taken_member : Cause → List Token
all_taken_member First = array_member (codes "all_taken") []
all_taken_member (Held held) = array_member (codes "all_taken") []
all_taken_member (Taken shortage) = array_member (codes "all_taken") (all_taken shortage)
all_taken_member Nothing = array_member (codes "all_taken") []

-- where an instruction stands, and by how many cycles it could come later
unfoldable pub standing : Why → List Token
standing why =
    number_member (codes "line") why.line ++ number_member (codes "cycle") why.cycle ++ number_member (codes "slack") why.slack

-- what keeps it from the cycle before: nothing of that in cycle 0, or where nothing does
unfoldable pub cause : Why → List Token
cause why =
    object (standing why ++ held_member why.cause ++ taken_member why.cause ++ all_taken_member why.cause)

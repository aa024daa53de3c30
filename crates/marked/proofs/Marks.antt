-- Every marked case gives what the paper says, computed in one statement. Assumes nothing.
use Rattle.wire.proofs.Basics.{◌≡◌, refl, map}
use mathlib.Core.List.{zip_with}
use Rattle.wire.specs.Bytes.{be, bytes}
use Rattle.wire.specs.Overlay.{overlay}
use Rattle.wire.specs.Sum.{sum}
use Rattle.names.specs.Name.{good_name_lem}
use Rattle.datagram.specs.Name.{until_zero_lem, name_length_lem}
use Rattle.datagram.specs.Read.{read_small_lem, good_form, formed, read_fragment_lem, read_datagram_lem}
use Rattle.datagram.specs.Said.{said}
use Rattle.cutter.specs.Cut.{count_of, small_bytes, head_bytes, piece_of, fragment_bytes, datagram_of}
use Rattle.steps.specs.Held.{none_held, is_held, hold}
use Rattle.steps.specs.Memory.{among, empty_memory, is_remembered_lem, remember, place_for_lem, with_key, memory_ok}
use Rattle.steps.specs.Slots.{oldest, open_count_lem, lower, release, seat, opening, filled}
use Rattle.steps.specs.Receive.{opened, stay, same_fragment_lem, agrees, step3, decide, step5, act, receive, sound, step}
use Rattle.steps.specs.Runs.{run}
use Rattle.watch.specs.Senders.{set_last, moved}
use Rattle.watch.specs.Watching.{asked_at, asked, after}
use Rattle.lmcp.specs.Run as run
use Rattle.lmcp.specs.Value.{fault, number_of}
use Rattle.lmcp.specs.Read.{judged, read_value, read_count, typed, known, read_header, read_head}
use Rattle.lmcp.specs.Walk.{item, field, fields, object, root}
use Rattle.lmcp.specs.Message.{frame, read_message_lem}
use Rattle.lmcp.specs.Lists.{read_as, read_list}
use Rattle.marked.specs.Ask.{given}
use Rattle.marked.specs.Table.{Case, cases}

pub marked : map (λ (c : Case). given c.ask) cases ≡ map (λ (c : Case). c.gives) cases
unfolding be bytes overlay sum good_name_lem until_zero_lem name_length_lem read_small_lem good_form formed read_fragment_lem read_datagram_lem said count_of small_bytes head_bytes
    piece_of fragment_bytes datagram_of none_held is_held hold among empty_memory is_remembered_lem remember place_for_lem with_key memory_ok oldest open_count_lem lower
    release seat opening filled opened stay same_fragment_lem agrees step3 decide step5 act receive sound step run zip_with set_last moved asked_at asked
    after run.prepend run.and_then run.after run.repeat run.whole fault number_of judged read_value read_count typed known read_header read_head item field
    fields object root frame read_message_lem read_as read_list
marked = refl

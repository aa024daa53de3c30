-- `replay` on B, A, B, computed from the definition of its lines. Assumes nothing.
use Rattle.wire.proofs.Basics.{◌≡◌, refl}
use Rattle.wire.specs.Bytes.{be, bytes}
use Rattle.wire.specs.Overlay.{overlay}
use Rattle.names.specs.Name.{good_name_lem}
use Rattle.datagram.specs.Name.{until_zero_lem, name_length_lem}
use Rattle.datagram.specs.Read.{read_small_lem, good_form, formed, read_fragment_lem, read_datagram_lem}
use Rattle.datagram.specs.Said.{said}
use Rattle.steps.specs.Held.{none_held, is_held, hold}
use Rattle.steps.specs.Memory.{among, empty_memory, is_remembered_lem, remember, place_for_lem, with_key, memory_ok}
use Rattle.steps.specs.Slots.{oldest, open_count_lem, lower, release, seat, opening, filled}
use Rattle.steps.specs.Receive.{opened, stay, same_fragment_lem, agrees, step3, decide, step5, act, receive, sound, step}
use Rattle.steps.specs.Runs.{begun}
use Rattle.steps.specs.Worked.{A-of, B-of}
use Rattle.stream.specs.declared.Kind.TheVariants.{Bytes2}
use Rattle.stream.specs.Records.{body_length_lem, is_whole}
use Rattle.text.specs.Text.{decimal_by, decimal}
use Rattle.record_lines.specs.Streams.{many, read_by, records_in}
use Rattle.replay_run.specs.Lines.{lines}
use Rattle.replay_run.specs.Worked.{given, printed, buffer_bytes}

pub paper-case : lines (records_in many Bytes2 buffer_bytes given) ≡ printed
unfolding begun records_in read_by body_length_lem is_whole decimal_by decimal bytes A-of B-of step sound receive decide act stay step3 step5 same_fragment_lem agrees seat oldest release lower opening open_count_lem filled
    opened empty_memory is_remembered_lem remember place_for_lem with_key memory_ok among is_held hold none_held said read_datagram_lem read_small_lem read_fragment_lem formed good_form name_length_lem good_name_lem until_zero_lem be overlay
paper-case = refl

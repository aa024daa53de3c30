pub mod OneLineMore

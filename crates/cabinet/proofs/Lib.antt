mod CallLaws
mod LentLaws

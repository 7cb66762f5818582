mod RecordsLeft
